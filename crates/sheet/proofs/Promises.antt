-- The promises of specs/Promises.antt, each proved under its name.
use Prim.Native.Nat.{ℕ, ◌≤◌}
use native.Mathlib.Omega.{arith}
use mathlib.Core.Path.{◌≡◌, refl, sym, ap, ◌∙◌}
use mathlib.Core.List.{List, [], map}
use lib.ListN.{length}
use Rattle.laws.proofs.Permuted.{permuted_length}
use Rattle.quantities.specs.Limits.{row_capacity}
use Rattle.quantities.specs.Table.{rows_of}
use Rattle.quantities.specs.declared.Micros.{Micros}
use Rattle.entries.specs.Entries.{row_in, entries_of, table_in, table_of, sheet_of, Rising}
use Rattle.sheet.specs.Reader.{no_sheet, refused, whole, first_sheet_of, read_of, verdict_paper}
use Rattle.records.specs.Records.{cores_on, tick_on}
use Rattle.sheet.specs.Whole.{MadeOf}
use Rattle.sheet.specs.Promises.{MissingAtTheEnd, WholeExactly, BoardAnswered, EachRowOnce, PrioritiesRise, TableInOrder, AnyOrder, NoTableRefused, FaultySheetTurnedAway, RefusedByFirstFault, AtMost550, First1024, OneOutcome}
use Rattle.sheet.specs.Promises.{FirstSheetIsWhole, WholeSheetIsFirst, FirstSheetRefused, RefusedBehindTheFirst}
use Rattle.records.specs.declared.RowFields.{RowFields}
use Rattle.entries.specs.declared.Sheet.{Sheet}
use Rattle.sheet.specs.Checks.{Verdict, fault}
use Rattle.std.specs.Prelude.{Ok, Err}
use Rattle.sheet.specs.declared.Outcome.{Outcome}
use Rattle.entries.proofs.Sheets.{board_sheet_lem, entries_of_sheet}
use Rattle.sheet.proofs.Faults.{missing_refused, first_fault_refused, refused_first_fault}
use Rattle.entries.proofs.Tables.{table_rows_in}
use Rattle.sheet.proofs.Whole.{length_entries}
use Rattle.sheet.proofs.Sound.{sound_made}
use Rattle.sheet.proofs.Answers.{arranged, arranged_rise, arranged_each_once, answer_made, made_sound, rows_each_once, sound_short, rows_in_any_order, refused_no_table}
use Rattle.sheet.proofs.Prefix.{read_first_bytes}
use Rattle.sheet.proofs.Reader.{answer_refused}
use Rattle.sheet.proofs.First.{first_within, first_alone, first_refused_whole, by_first, sound_first}
use Rattle.sheet.proofs.First.{refused_by_first}

pub whole_exactly : WholeExactly
whole_exactly sheet = (sound_made sheet, made_sound sheet)

pub board_answered : BoardAnswered read_of
unfolding whole sheet_of
board_answered sheet m =
    (ap (λ (o : Outcome). o.sheet.cores) (answer_made sheet m), ap (λ (o : Outcome). o.sheet.tick) (answer_made sheet m))

pub each_row_once : EachRowOnce read_of
each_row_once = rows_each_once

-- A sheet's answer is that of a list of at most 32 rising entries, refused or not.
record Answered (sheet : Sheet) : Type 0 where
  cores : ℕ
  tick : Micros
  entries : List RowFields
  is_sheet : sheet ≡ sheet_of cores tick entries
  few : length entries ≤ row_capacity
  rise : Rising entries

answered : (sheet : List ℕ) → Answered (read_of sheet).sheet
unfolding whole refused no_sheet
answered sheet = by_verdict (read_of sheet).verdict refl
  where
    by_made : MadeOf sheet → Answered (read_of sheet).sheet
    by_made m =
        let w = m.in_order in
        let l = permuted_length (arranged_each_once m.board m.rows m.end w) in
        record {
          cores = cores_on m.board;
          tick = tick_on m.board;
          entries = arranged m.board m.rows m.end w;
          is_sheet = ap (λ (o : Outcome). o.sheet) (answer_made sheet m);
          few = omega (arith, w.few_rows, length_entries m.rows);
          rise = arranged_rise m.board m.rows m.end w;
        }

    by_verdict : (v : Verdict) → (read_of sheet).verdict ≡ v → Answered (read_of sheet).sheet
    by_verdict (Ok _) e = by_made (sound_made sheet e)
    by_verdict (Err one) e =
        record {
          cores = 0;
          tick = record { 0 = 0 };
          entries = [];
          is_sheet =
              ap (λ (o : Outcome). o.sheet) (refused_no_table sheet one.number one.place e) ∙ board_sheet_lem 0 (record { 0 = 0 });
          few = omega arith;
          rise = tt;
        }

pub priorities_rise : PrioritiesRise read_of
priorities_rise sheet =
    let a = answered sheet in
    rw (a.is_sheet, entries_of_sheet a.cores a.tick a.entries) a.rise

pub table_in_order : TableInOrder read_of
unfolding table_of
table_in_order sheet =
    let a = answered sheet in
    let all : (tick : Micros)
    → rows_of (table_in (read_of sheet).sheet tick) ≡ map (row_in tick) (entries_of (read_of sheet).sheet) =
    λ tick.
    rw (a.is_sheet, entries_of_sheet a.cores a.tick a.entries)
    (table_rows_in a.cores a.tick tick a.entries a.few) in
    (all, all (read_of sheet).sheet.tick)

pub any_order : AnyOrder
any_order = rows_in_any_order

pub no_table_refused : NoTableRefused
no_table_refused = refused_no_table

pub missing_at_the_end : MissingAtTheEnd
missing_at_the_end sheet reading at before e = missing_refused sheet reading at before e

pub faulty_sheet_turned_away : FaultySheetTurnedAway
unfolding refused verdict_paper
faulty_sheet_turned_away sheet one fault =
    let answer = first_fault_refused sheet one fault in
    (ap (λ (o : Outcome). verdict_paper o.verdict) answer, ap (λ (o : Outcome). o.sheet) answer)

pub refused_by_first_fault : RefusedByFirstFault
refused_by_first_fault = refused_first_fault

pub at_most_550 : AtMost550
at_most_550 = sound_short

pub first_1024 : First1024
first_1024 = read_first_bytes

pub one_outcome : OneOutcome
one_outcome sheet a b p q = p ∙ sym q

pub first_sheet_is_whole : FirstSheetIsWhole
unfolding whole
first_sheet_is_whole bytes s =
    let alone = first_alone bytes s in
    (first_within bytes s, alone, sound_made _ (ap (λ (o : Outcome). o.verdict) alone))

pub whole_sheet_is_first : WholeSheetIsFirst
whole_sheet_is_first = sound_first

pub first_sheet_refused : FirstSheetRefused
first_sheet_refused bytes number place e =
    (first_refused_whole bytes number place e, sym (answer_refused bytes (first_sheet_of bytes) refl (fault number place) e))

pub refused_behind_the_first : RefusedBehindTheFirst
refused_behind_the_first bytes number place e = refused_by_first bytes (read_of bytes) (by_first bytes) number place e
