-- The analysis of the caller's own list with a lent list for the bounds: the answer, and what it leaves.
use Rattle.std.specs.Prelude.{ℕ, ◌+◌, ◌*◌, ◌≤◌, ◌≡◌, List, [], ◌∷◌, length, take, drop}
use Rattle.laws.specs.Each.{Each}
use Rattle.quantities.specs.declared.Row.{Row}
use Rattle.quantities.specs.declared.Fault.{Fault}
use Rattle.quantities.specs.declared.Ticks.{Ticks}
use Rattle.quantities.specs.Paper.{Paper, paper, fault_paper}
use Rattle.laws.specs.Checks.{FirstFailing}
use Rattle.quantities.specs.Lengths.{numbers}
use Rattle.windows.specs.declared.Answer.{Answer}
use Rattle.windows.specs.declared.Answer.TheVariants.{Refused}
use Rattle.windows.specs.Answer.{Judged, judged, judged_into, answer_paper}
use Rattle.analysis.specs.Analysis.{analysis_of}
use Rattle.lentrows.specs.declared.Told.{Told}
use Rattle.lentrows.specs.Lent.{LentAnalysis, told_of}
use Rattle.exports.specs.Exported.{row_from, rows_from, Exported}
use Rattle.rowpages.specs.Lists.{lent_order, fault_at, ListInRange}
use Rattle.rowpages.specs.Windows.{JudgedBy}

-- An analysis that is lent a list: for this many cores, the caller's rows and the entries before, which entries
-- it may leave and what it may answer.
abbrev pub Lending : Type 1
Lending = (cores : ℕ) → List Row → (before after : List ℕ) → Answer → Type 0

-- ours: `analyse_list` over a lent list, each entry of which is a number of ticks
abbrev pub lent : Lending
lent cores rows before after answer = LentAnalysis (judged_into cores (length before) rows) before after answer

-- The lent list is one of lengths, each of which is a number of ticks; said of its numbers, the contract of
-- `analyse_list` is `lent`.
pub record OfLengths : Type 0 where
  pub none : numbers [] ≡ []
  pub one : (length_of : Ticks) (rest : List Ticks) → numbers (length_of ∷ rest) ≡ length_of.0 ∷ numbers rest
  pub analyse_list : (cores : ℕ) (rows : List Row) (before after : List Ticks) (answer : Answer)
      → LentAnalysis (judged_into cores (length before) rows) (numbers before) (numbers after) answer
      → lent cores rows (numbers before) (numbers after) answer

-- Every list is answered, whatever is lent.
pub record Answers (lend : Lending) (cores : ℕ) (rows : List Row) (before : List ℕ) : Type 0 where
  pub after : List ℕ
  pub answer : Answer
  pub given : lend cores rows before after answer

abbrev pub LentAnswered : Lending → Type 0
LentAnswered lend = (cores : ℕ) (rows : List Row) (before : List ℕ) → Answers lend cores rows before

-- A list with a fault is turned away by the first check that fails, 7 after the rows' checks, and the lent
-- list stays as it was: numbers 1 to 7 write nothing.
pub record LeftAlone (one : Paper) (before after : List ℕ) (answer : Answer) : Type 0 where
  pub answers : answer ≡ Refused (fault_at one.number one.place)
  pub on_paper : answer_paper answer ≡ paper one.number one.place
  pub same_list : after ≡ before

abbrev pub LentTurnedAway : Lending → Type 0
LentTurnedAway lend =
    (cores : ℕ) (rows : List Row) (before after : List ℕ) (answer : Answer) (one : Paper)
    → lend cores rows before after answer → FirstFailing (lent_order cores (length before) rows) one
    → LeftAlone one before after answer

-- And a list that is refused has that fault.
abbrev pub RefusedLentHasFault : Lending → Type 0
RefusedLentHasFault lend =
    (cores : ℕ) (rows : List Row) (before after : List ℕ) (fault : Fault)
    → lend cores rows before after (Refused fault)
    → FirstFailing (lent_order cores (length before) rows) (fault_paper fault)

-- A list in range with an entry for each row is judged. The first entries hold the bounds that come with the
-- answer: one for each row, or those of the rows before the place not shown. Every later entry is as it was.
pub record LentJudgement (cores : ℕ) (rows : List Row) (before after : List ℕ) (answer : Answer) : Type 0 where
  pub bounds : List ℕ
  pub right : JudgedBy cores rows (record { answer = answer; bounds = bounds })
  pub first : take (length bounds) after ≡ bounds
  pub later : drop (length bounds) after ≡ drop (length bounds) before
  pub as_long : length after ≡ length before

abbrev pub LentJudged : Lending → Type 0
LentJudged lend =
    (cores : ℕ) (rows : List Row) (before after : List ℕ) (answer : Answer)
    → lend cores rows before after answer → ListInRange cores rows → length rows ≤ length before
    → LentJudgement cores rows before after answer

-- An outcome by the rules: turned away so, or judged so.
pub record LentOutcome (cores : ℕ) (rows : List Row) (before after : List ℕ) (answer : Answer) : Type 0 where
  pub faulty : (one : Paper) → FirstFailing (lent_order cores (length before) rows) one
      → LeftAlone one before after answer
  pub judges : ListInRange cores rows → length rows ≤ length before
      → LentJudgement cores rows before after answer

-- Any two are equal: one answer, and one content of the lent list.
abbrev pub OneLent : Type 0
OneLent =
    (cores : ℕ) (rows : List Row) (before after after' : List ℕ) (answer answer' : Answer)
    → LentOutcome cores rows before after answer → LentOutcome cores rows before after' answer'
    → (after ≡ after') × (answer ≡ answer')

-- By value, `analyse` answers with the bounds in the first of 32 entries, and 0 in every later one.
pub record InEntries (bounds entries : List ℕ) : Type 0 where
  pub first : take (length bounds) entries ≡ bounds
  pub blank : Each (λ entry. entry ≡ 0) (drop (length bounds) entries)
  pub many : length entries ≡ 32

abbrev pub ByValue : Type 0
ByValue =
    (cores : ℕ) (rows : List Row)
    → ((analysis_of (judged cores rows)).answer ≡ (judged cores rows).answer)
    × InEntries (judged cores rows).bounds (numbers (analysis_of (judged cores rows)).bounds)

-- What `answer_for` tells a caller with a bounds list of this many entries: the answer, the bounds in 32
-- entries, and how many of them are to be written.
pub record ToldOf (j : Judged) (told : Told) : Type 0 where
  pub answer : told.answer ≡ j.answer
  pub bounds : InEntries j.bounds (numbers told.bounds)
  pub shown : told.shown ≡ length j.bounds

abbrev pub ToldFor : Type 0
ToldFor =
    (cores entries : ℕ) (rows : List Row)
    → ToldOf (judged_into cores entries rows) (told_of (judged_into cores entries rows))

-- A caller in C gives each row as a triple: C, D and T in that order.
abbrev pub TripleIsRow : Type 0
TripleIsRow =
    (c d t : ℕ)
    → ((row_from (c ∷ d ∷ t ∷ [])).c.0 ≡ c)
    × ((row_from (c ∷ d ∷ t ∷ [])).d.0 ≡ d)
    × ((row_from (c ∷ d ∷ t ∷ [])).t.0 ≡ t)

-- Its list of triples is the list of these rows.
pub record TriplesInOrder : Type 0 where
  pub none : rows_from [] ≡ []
  pub one : (triple : List ℕ) (rest : List (List ℕ)) → rows_from (triple ∷ rest) ≡ row_from triple ∷ rows_from rest

-- It is answered as the lent analysis of these rows answers, with the number times 2 to the 32nd plus the
-- place.
pub record ToC (cores : ℕ) (rows : List Row) (before after : List ℕ) (code : ℕ) : Type 0 where
  pub answer : Answer
  pub given : lent cores rows before after answer
  pub coded : code ≡ (answer_paper answer).number * 4294967296 + (answer_paper answer).place

abbrev pub CallersInC : Type 0
CallersInC =
    (cores : ℕ) (triples : List (List ℕ)) (before after : List ℕ) (code : ℕ)
    → Exported (judged_into cores (length before) (rows_from triples)) before after code
    → ToC cores (rows_from triples) before after code
