-- What the analysis answers, and what it leaves in the bounds list that the caller lends.
use Rattle.std.specs.Prelude.{ℕ, ◌-◌, ◌≡◌, List, ◌++◌, length, drop, take}
use Rattle.quantities.specs.declared.Fault.{Fault}
use Rattle.quantities.specs.declared.Row.{Row}
use Rattle.quantities.specs.declared.Ticks.{Ticks}
use Rattle.windows.specs.Answer.{Judged, judged_into, bounds_after}
use Rattle.windows.specs.declared.Answer.{Answer}
use Rattle.windows.specs.declared.Answer.TheVariants.{Shown, NotShown, Refused}
use Rattle.quantities.specs.Lengths.{numbers, in_array}
use Rattle.lentrows.specs.declared.Told.{Told}

-- The answer is the one judged, and the list, read as numbers of ticks, is left with the bounds that come with it in
-- its first entries.
pub record LentAnalysis (judged : Judged) (before after : List ℕ) (answer : Answer) : Type 0 where
  pub answers : answer ≡ judged.answer
  pub leaves : after ≡ bounds_after judged before

-- the first n of these bounds, then the entries that the list had
abbrev pub front_replaced : {A : Type 0} → ℕ → List A → List A → List A
front_replaced n found before = take n found ++ drop n before

-- what the caller is told of what is judged: the bounds in an array, and how many there are
unfoldable pub told_of : Judged → Told
told_of j = record { answer = j.answer; bounds = in_array j.bounds; shown = length j.bounds }

-- how many rows of this many have a bound where this is the answer
unfoldable pub shown_by : Answer → (count : ℕ) → ℕ
shown_by Shown count = count
shown_by (NotShown number place) count = place - 1
shown_by (Refused fault) count = 0

-- The first n entries hold these bounds, and every later one is as it was.
pub record Filled (n : ℕ) (bounds before after : List ℕ) : Type 0 where
  pub many : length bounds ≡ n
  pub first : take n after ≡ bounds
  pub later : drop n after ≡ drop n before

-- What is judged of these rows on M cores where the bounds list holds these entries.
abbrev pub judged_over : (M : ℕ) → List Row → (before : List ℕ) → Judged
judged_over M rows before = judged_into M (length before) rows

-- Numbers 1 to 7 write nothing to the bounds list.
abbrev pub RefusedWritesNothing : Type 0
RefusedWritesNothing =
    (M : ℕ) (rows : List Row) (before after : List ℕ) (fault : Fault)
    → LentAnalysis (judged_over M rows before) before after (Refused fault)
    → after ≡ before

-- A row not shown leaves the bounds of the rows before the place in the first entries and every later entry untouched.
abbrev pub NotShownLeaves : Type 0
NotShownLeaves =
    (M : ℕ) (rows : List Row) (before after : List ℕ) (number place : ℕ)
    → LentAnalysis (judged_over M rows before) before after (NotShown number place)
    → Filled (place - 1) (judged_over M rows before).bounds before after

-- Success fills one entry per row and touches no other.
abbrev pub ShownFills : Type 0
ShownFills =
    (M : ℕ) (rows : List Row) (before after : List ℕ)
    → LentAnalysis (judged_over M rows before) before after Shown
    → Filled (length rows) (judged_over M rows before).bounds before after

-- Whatever the answer, the bounds list keeps its length.
abbrev pub LengthKept : Type 0
LengthKept =
    (M : ℕ) (rows : List Row) (before after : List ℕ) (answer : Answer)
    → LentAnalysis (judged_over M rows before) before after answer
    → length after ≡ length before

-- Any two outcomes meeting the statement are equal: the list is left with the same lengths, and the answer is the same.
abbrev pub OneOutcome : Type 0
OneOutcome =
    (j : Judged) (before after after' : List Ticks) (answer answer' : Answer)
    → LentAnalysis j (numbers before) (numbers after) answer
    → LentAnalysis j (numbers before) (numbers after') answer'
    → (after ≡ after') × (answer ≡ answer')
