-- No fake passes: a board of two rows shows up the judges, a sheet the readers, document 01's sheet the tool.
use Prim.Native.Nat.{ℕ}
use native.Mathlib.Omega.{arith}
use mathlib.Core.Path.{◌≡◌, refl, sym, ap, ◌∙◌}
use mathlib.Core.List.{List, [], ◌∷◌, ◌++◌}
use lib.ListN.{get_or, replicate}
use Rattle.quantities.specs.declared.Row.{Row}
use Rattle.quantities.specs.Row.{row_of}
use Rattle.laws.specs.Checks.{first_failing}
use Rattle.laws.proofs.Tests.{not_one}
use Rattle.quantities.specs.Checks.{row_checks, rows_checks, list_checks, fault_from, list_fault}
use Rattle.quantities.specs.Table.{rows_of, empty_table, with_row}
use Rattle.windows.specs.declared.Answer.TheVariants.{Shown}
use Rattle.windows.specs.Window.{plain, carry, limit, interference}
use Rattle.windows.specs.Choice.{most, passes}
use Rattle.windows.specs.Least.{first_of, least}
use Rattle.windows.specs.Bound.{window, bounds_below}
use Rattle.windows.specs.Answer.{Judged, verdict, judged_after, judged}
use Rattle.records.specs.Bytes.{number_after, field}
use Rattle.records.specs.Records.{record_length, row_fields, whole_record, record_on, is_row_kind, is_end}
use Rattle.entries.specs.Entries.{ticks_of, row_in, board_sheet, entries_of, used, inserted, with_entry, table_with, table_in, table_of}
use Rattle.sheet.specs.Checks.{misplaced, board_checks, end_checks, record_checks, verdict_of}
use Rattle.sheet.specs.Checks.{row_record_checks as record_row_checks}
use Rattle.sheet.specs.Reader.{no_sheet, new_reading, after_record, refused, whole, unread, ended, first_from, first_sheet_of, closed, read_of}
use Rattle.printing.specs.Words.{ascii}
use Rattle.printing.specs.Decimal.{digits_in, decimal}
use Rattle.lines.specs.Lines.{first_line, row_line, row_lines, shown_line}
use Rattle.text.specs.Text.{judged_text, bound_lines}
use Rattle.promises.specs.Tool.{sheet_of_document}
use Rattle.rowpages.specs.Lists.{ListInRange}
use Rattle.sheetpages.specs.Sheets.{WholeWith}
use Rattle.rowpages.specs.Lent.{Lending}
use Rattle.promises.specs.Promises.{Reader, Judge, Tool, Demand2For}
use Rattle.promises.specs.Fakes.{
  TurnsEverythingAway,
  TakesNoSheet,
  AnswersTheCost,
  writes_no_bounds,
  AnswersNoBounds,
  KeepsSheetOrder,
  judges_in_order,
  AsTheRecordsStand,
  FakesCaught,
}
use Rattle.rowpages.proofs.Windows.{judged_right, one_judgement_by_rules}
use Rattle.promises.proofs.Tool.{one_text_printed, output_of_document}

-- one core and two rows of document 01, of which the second has the bound 3 and the cost 2
abbrev two : List Row
two = row_of 1 4 4 ∷ row_of 2 6 6 ∷ []

abbrev answer : Judged
answer = record { answer = Shown; bounds = 1 ∷ 3 ∷ [] }

two_in_range : ListInRange 1 two
two_in_range =
    record {
      some_cores = omega arith;
      few_cores = omega arith;
      rows_in_range =
          record {
            some_rows = omega arith;
            few_rows = omega arith;
            each = (
              record { some_work = omega arith; in_time = omega arith; in_gap = omega arith; short_gap = omega arith },
              (record { some_work = omega arith; in_time = omega arith; in_gap = omega arith; short_gap = omega arith }, tt),
            );
          };
    }

two_judged : judged 1 two ≡ answer
unfolding row_checks rows_checks list_checks first_failing fault_from list_fault plain carry limit interference
    most passes first_of least window bounds_below verdict judged_after judged
two_judged = refl

-- a sheet with the row of priority 10 before that of priority 2
abbrev row_with : ℕ → List ℕ
row_with priority = 2 ∷ 0 ∷ 7 ∷ 0 ∷ priority ∷ replicate 12 0

abbrev falling : List ℕ
falling = (1 ∷ 2 ∷ 0 ∷ 100 ∷ []) ++ row_with 10 ++ row_with 2 ++ (3 ∷ 2 ∷ [])

infixr 4 ◌&◌
◌&◌ : {A B : Type 0} → A → B → A × B
a & b = (a, b)

whole_falling : WholeWith falling 2
whole_falling =
    record {
      rows_pass = (
        (
          refl & refl & refl & refl & refl & tt,
          refl & refl & refl & refl & refl & refl & refl & tt,
          refl,
        ),
        refl & refl & refl & refl & refl & refl & refl & tt,
        refl,
      );
      end_passes = refl & refl & refl & refl & refl & refl & tt;
      is_end_holds = refl;
    }

-- what a tool prints for the sheet of document 01 that judges the rows as the records stand: bound 2 for the
-- row of priority 2
crossed : (order : List Row → List Row) → AsTheRecordsStand order
    → judges_in_order order sheet_of_document
    ≡ ascii "cores 2 tick 100 rows 3\n1 101 2 5\n2 102 2 8\n3 110 5 4\nall shown\n"
unfolding judged_text bound_lines first_line row_line row_lines shown_line decimal digits_in read_of closed first_sheet_of first_from unread ended new_reading
    no_sheet board_sheet record_on record_length is_row_kind is_end whole_record row_fields field number_after record_checks misplaced
    board_checks record_row_checks end_checks verdict_of after_record with_entry inserted entries_of row_in ticks_of used whole
    refused table_of table_in table_with with_row empty_table rows_of row_checks rows_checks list_checks first_failing fault_from list_fault
    plain carry limit interference most passes first_of least window bounds_below verdict judged_after judged
crossed order stands = rw (stands) refl

module _ (read : Reader) (judge : Judge) (lend : Lending) (tool : Tool) where
  -- a judge that meets demand 2 answers so
  must_answer : Demand2For read judge lend tool → judge 1 two ≡ answer
  must_answer demand =
      one_judgement_by_rules 1 two (judge 1 two) (judged 1 two)
      (demand.lists 1 two two_in_range) (judged_right 1 two two_in_range)
      ∙ two_judged

  turns_away : Demand2For read judge lend tool → TurnsEverythingAway judge → ⊥
  turns_away demand fake = fake 1 two (ap (λ (j : Judged). j.answer) (must_answer demand))

  takes_none : Demand2For read judge lend tool → TakesNoSheet read → ⊥
  takes_none demand fake = fake falling (demand.sheets falling 2 whole_falling).0

  answers_cost : Demand2For read judge lend tool → AnswersTheCost judge → ⊥
  answers_cost demand fake =
      let second = rw (must_answer demand) at (fake 1 two 1) in
      let same : ◌≡◌ {A = ℕ} 3 2 = second (omega arith) in
      omega arith

  answers_none : Demand2For read judge lend tool → AnswersNoBounds judge → ⊥
  answers_none demand fake =
      let is = ap (λ (j : Judged). j.bounds) (must_answer demand) in
      not_one (cc (sym is ∙ fake 1 two))

  -- where the lent list holds 0 twice, the bounds would be 0
  writes_none : Demand2For read judge writes_no_bounds tool → ⊥
  writes_none demand =
      let given : writes_no_bounds 1 two (0 ∷ 0 ∷ []) (0 ∷ 0 ∷ []) _ = (refl, refl) in
      let left = demand.lent_lists 1 two (0 ∷ 0 ∷ []) (0 ∷ 0 ∷ []) _ given two_in_range (omega arith) in
      let right = judged_right 1 two two_in_range in
      let same = one_judgement_by_rules 1 two _ (judged 1 two) left.right right ∙ two_judged in
      let bounds : left.bounds ≡ 1 ∷ 3 ∷ [] = ap (λ (j : Judged). j.bounds) same in
      let first = rw bounds at left.first in
      not_one (ap (λ (xs : List ℕ). get_or xs 0 0) first)

  keeps_order : Demand2For read judge lend tool → KeepsSheetOrder read → ⊥
  keeps_order demand fake =
      let read_in = (demand.sheets falling 2 whole_falling).1 in
      let rises = read_in.rising 0 1 (omega arith) (omega (arith, read_in.counted)) in
      let first = (fake falling 2 whole_falling 0 (omega arith)).priority in
      let second = (fake falling 2 whole_falling 1 (omega arith)).priority in
      omega arith

  -- the row of priority 2 has the bound 3
  joins_wrongly : (order : List Row → List Row) → AsTheRecordsStand order
      → Demand2For read judge lend (judges_in_order order) → ⊥
  joins_wrongly order stands demand =
      let text = one_text_printed (judges_in_order order) demand.whole_way sheet_of_document in
      let same = sym (crossed order stands) ∙ text ∙ output_of_document in
      let z : ◌≡◌ {A = ℕ} 50 51 = ap (λ (xs : List ℕ). get_or xs 40 0) same in
      omega arith

  pub fakes_caught : FakesCaught read judge lend tool
  fakes_caught =
      record {
        turns_away = turns_away;
        takes_none = takes_none;
        answers_cost = answers_cost;
        writes_none = writes_none;
        answers_none = answers_none;
        keeps_order = keeps_order;
        joins_wrongly = joins_wrongly;
      }
