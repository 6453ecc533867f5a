-- Laws of the text: what it is for each answer, with the counts that the code has.
use Prim.Native.Nat.{ℕ, suc, ◌-◌, ◌≤◌, ◌<◌}
use native.Mathlib.Omega.{arith}
use mathlib.Core.Path.{◌≡◌, refl, sym, ap, ◌∙◌}
use mathlib.Core.Logic.{⊎_elim}
use mathlib.Core.List.{List, ◌++◌}
use mathlib.Core.Option.{Option, none, some}
use lib.ListN.{length, take, length-append}
use Rattle.laws.proofs.Tests.{not_one}
use Rattle.quantities.specs.Limits.{row_capacity}
use Rattle.quantities.specs.Table.{rows_of}
use Rattle.quantities.specs.Checks.{list_fault, SoundList}
use Rattle.quantities.specs.declared.Row.{Row}
use Rattle.quantities.specs.declared.Table.{Table}
use Rattle.quantities.specs.declared.Fault.{Fault}
use Rattle.quantities.proofs.Sound.{sound_list_means}
use Rattle.quantities.proofs.Rows.{length_rows}
use Rattle.quantities.specs.Paper.{fault_paper}
use Rattle.quantities.specs.Lengths.{numbers, in_array}
use Rattle.quantities.specs.declared.Ticks.{Ticks}
use Rattle.quantities.proofs.Lengths.{found_are}
use Rattle.laws.proofs.Lists.{map_take}
use Rattle.windows.specs.Answer.{Judged, late_number, judged}
use Rattle.windows.specs.Judgement.{AllShown, FirstNotShown}
use Rattle.windows.specs.declared.Answer.{Answer}
use Rattle.windows.specs.declared.Answer.TheVariants.{Shown, NotShown, Refused}
use Rattle.windows.proofs.Judgement.{judged_faulty, judged_means}
use Rattle.analysis.specs.Analysis.{analysis_of}
use Rattle.analysis.specs.declared.Analysis.{Analysis}
use Rattle.entries.specs.Entries.{table_of}
use Rattle.sheet.specs.Reader.{read_of}
use Rattle.sheet.proofs.Promises.{first_1024}
use Rattle.entries.specs.declared.Sheet.{Sheet}
use Rattle.sheet.specs.declared.Outcome.{Outcome}
use Rattle.std.specs.Prelude.{Ok, Err}
use Rattle.sheet.specs.declared.SheetFault.{SheetFault}
use Rattle.sheet.specs.Checks.{Verdict}
use Rattle.lines.specs.Lines.{shown_line, not_shown_line, refused_line}
use Rattle.text.specs.Text.{lines_up_to, bound_lines, label_at, paper_line, judged_text, sheet_text, outcome_text, text_of}

module _ (M : ℕ) (rows : List Row) where
  -- rows whose answer is no fault passed the checks
  answered : ((fault : Fault) → (judged M rows).answer ≡ Refused fault → ⊥) → SoundList M rows
  answered sound = go (list_fault M rows) refl
    where
      go : (found : Option Fault) → list_fault M rows ≡ found → SoundList M rows
      go none q = (sound_list_means M rows).0 q
      go (some fault) q = absurd (sound fault (ap (λ j. j.answer) (judged_faulty M rows fault q)))

  -- all shown: a bound for each of at most 32 rows
  pub shown_counts : (judged M rows).answer ≡ Shown
      → (length (judged M rows).bounds ≡ length rows) × (length rows ≤ row_capacity)
  shown_counts e =
      let sound = answered (λ fault q. not_one cc) in
      ⊎_elim
      (λ (all : AllShown rows (judged M rows)). (all.each, sound.few_rows))
      (λ (none : FirstNotShown M rows (judged M rows)). absurd (not_one (cc none.says)))
      (judged_means M rows sound).ends

  -- a row not shown: the one behind those with bounds
  pub not_shown_counts : (number place : ℕ) → (judged M rows).answer ≡ NotShown number place
      → (place ≡ suc (length (judged M rows).bounds)) × (length (judged M rows).bounds < row_capacity)
  not_shown_counts number place e =
      let sound = answered (λ fault q. not_one cc) in
      ⊎_elim
      (λ (all : AllShown rows (judged M rows)). absurd (not_one (cc all.says)))
      (λ (none : FirstNotShown M rows (judged M rows)).
      let same : NotShown number place ≡ NotShown late_number (suc (length (judged M rows).bounds)) =
      sym e ∙ none.says in
      (cc, omega (arith, none.stands, sound.few_rows)))
      (judged_means M rows sound).ends

-- the lines that the code prints before the last one, k of them row lines
abbrev pub lines_before : Sheet → Table → Analysis → ℕ → List ℕ
lines_before sheet table analysis k = lines_up_to sheet table.count (numbers (take k analysis.bounds)) k

-- the text by the analysis of the sheet's table
module _ (sheet : Sheet) (table : Table) (analysis : Analysis) (tabled : table ≡ table_of sheet)
    (judges : analysis ≡ analysis_of (judged sheet.cores (rows_of table))) where
  abbrev found : Judged
  found = judged sheet.cores (rows_of table)

  answer_is : found.answer ≡ analysis.answer
  unfolding analysis_of
  answer_is = sym (ap (λ (x : Analysis). x.answer) judges)

  -- the first bounds of the analysis, as many as the rules give, are these
  lines_are : (k : ℕ) → length found.bounds ≡ k
      → bound_lines sheet (rows_of table) found.bounds ≡ lines_before sheet table analysis k
  unfolding bound_lines analysis_of
  lines_are k as_many =
      let front : numbers (take k analysis.bounds) ≡ found.bounds =
      rw (ap (λ (x : Analysis). x.bounds) judges, map_take (λ (t : Ticks). t.0) k (in_array found.bounds), ← as_many) (found_are found.bounds) in
      rw (length_rows table, front, as_many) refl

  text_is : (answer : Answer) → analysis.answer ≡ answer
      → sheet_text sheet ≡ judged_text sheet (rows_of table) (record { answer = answer; bounds = found.bounds })
  unfolding sheet_text judged_text
  text_is answer e = rw (← tabled, answer_is, e) refl

  -- all shown: the lines of a table's rows, which it has room for
  pub count_shown : analysis.answer ≡ Shown → table.count ≤ row_capacity
  count_shown e = omega (arith, length_rows table, (shown_counts sheet.cores (rows_of table) (answer_is ∙ e)).1)

  pub text_shown : analysis.answer ≡ Shown → sheet_text sheet ≡ lines_before sheet table analysis table.count ++ shown_line
  unfolding judged_text
  text_shown e =
      let same : length found.bounds ≡ table.count = (shown_counts sheet.cores (rows_of table) (answer_is ∙ e)).0 ∙ length_rows table in
      text_is Shown e ∙ rw (lines_are table.count same) refl

  -- a row not shown: the lines of those before it
  pub before_not_shown : {number place : ℕ} → analysis.answer ≡ NotShown number place
      → (0 < place) × (place ≤ row_capacity)
  before_not_shown {number} {place} e =
      let counts = not_shown_counts sheet.cores (rows_of table) number place (answer_is ∙ e) in
      (omega (arith, counts.0), omega (arith, counts.0, counts.1))

  pub text_not_shown : {number place : ℕ} → analysis.answer ≡ NotShown number place
      → sheet_text sheet ≡ lines_before sheet table analysis (place - 1) ++ not_shown_line place (label_at sheet (place - 1))
  unfolding judged_text
  text_not_shown {number} {place} e =
      let same : length found.bounds ≡ place - 1 =
      omega (arith, (not_shown_counts sheet.cores (rows_of table) number place (answer_is ∙ e)).0) in
      text_is (NotShown number place) e ∙ rw (lines_are (place - 1) same) refl

  pub text_refused : {fault : Fault} → analysis.answer ≡ Refused fault → sheet_text sheet ≡ paper_line (fault_paper fault)
  unfolding judged_text
  text_refused {fault} e = text_is (Refused fault) e

-- the text by the reader's answer
module _ (bytes : List ℕ) (outcome : Outcome) (reads : outcome ≡ read_of bytes) where
  pub text_unread : (fault : SheetFault) → outcome.verdict ≡ Err fault → text_of bytes ≡ refused_line fault.number fault.place
  unfolding text_of outcome_text
  text_unread fault e = ap outcome_text (sym reads) ∙ rw (e, outcome_text) refl

  pub text_read : outcome.verdict ≡ Ok tt → text_of bytes ≡ sheet_text outcome.sheet
  unfolding text_of outcome_text
  text_read e = ap outcome_text (sym reads) ∙ rw (e, outcome_text) refl

-- what is printed depends on the first 1,024 bytes alone
pub text_first_bytes : (sheet : List ℕ) → text_of (take 1024 sheet) ≡ text_of sheet
unfolding text_of
text_first_bytes sheet = ap outcome_text (first_1024 sheet)

-- no text is empty
refused_some : (number place : ℕ) → 0 < length (refused_line number place)
unfolding refused_line
refused_some number place = simp length-append (omega arith)

judged_some : (sheet : Sheet) (rows : List Row) (j : Judged) → 0 < length (judged_text sheet rows j)
unfolding judged_text shown_line not_shown_line
judged_some sheet rows j = go j.answer refl
  where
    go : (answer : Answer) → j.answer ≡ answer → 0 < length (judged_text sheet rows j)
    go Shown e = rw (e, judged_text, length-append) (omega arith)
    go (NotShown number place) e = rw (e, judged_text) (simp length-append (omega arith))
    go (Refused fault) e = rw (e, judged_text) (refused_some (fault_paper fault).number (fault_paper fault).place)

pub text_some : (bytes : List ℕ) → 0 < length (text_of bytes)
unfolding text_of outcome_text sheet_text
text_some bytes = go (read_of bytes).verdict refl
  where
    go : (verdict : Verdict) → (read_of bytes).verdict ≡ verdict → 0 < length (outcome_text (read_of bytes))
    go (Err fault) e = rw (e, outcome_text) (refused_some fault.number fault.place)
    go (Ok _) e = rw (e, outcome_text) (judged_some (read_of bytes).sheet _ _)
