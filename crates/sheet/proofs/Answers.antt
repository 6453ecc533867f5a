-- What the reader's answer promises: the sheet's rows, each once, in rising priority, whatever their order on the sheet.
use Prim.Native.Nat.{ℕ, zero, suc, ◌+◌, ◌≤◌}
use native.Mathlib.Omega.{arith}
use mathlib.Core.Path.{◌≡◌, refl, sym, ap, ◌∙◌}
use mathlib.Core.Bool.{Bool, true, false}
use mathlib.Core.List.{List, [], ◌++◌, append-nil}
use lib.ListN.{length, drop, length-append}
use Rattle.laws.specs.Permuted.{Permuted, as_is, keep, swap, both}
use Rattle.laws.proofs.Permuted.{permuted_back, permuted_length, permuted_each}
use Rattle.records.specs.Records.{cores_on, tick_on, row_fields, record_on, size_on, is_end, RowRecord}
use Rattle.records.specs.declared.Record.{Record}
use Rattle.records.proofs.Parts.{board_long, end_long}
use Rattle.entries.specs.Entries.{entries_of, inserted_all, sheet_of, Rising, Different}
use Rattle.sheet.specs.Reader.{no_sheet, new_reading, after_record, refused, whole, read_of}
use Rattle.sheet.specs.Whole.{joined, entries_on, PriorityInRange, WholeSheet, bytes_of, MadeOf}
use Rattle.records.specs.declared.RowFields.{RowFields}
use Rattle.entries.specs.declared.Sheet.{Sheet}
use Rattle.sheet.specs.declared.Reading.{Reading}
use Rattle.sheet.specs.Checks.{Verdict, fault}
use Rattle.std.specs.Prelude.{Ok, Err}
use Rattle.sheet.specs.declared.Outcome.{Outcome}
use Rattle.entries.proofs.Entries.{used_below}
use Rattle.sheet.proofs.Checks.{sound_not_refused}
use Rattle.sheet.proofs.Reader.{verdict_at, read_from, behind, read_none, read_refused, read_whole, read_on, read_of_lem}
use Rattle.entries.proofs.Order.{rising_permuted, unused_first, unused_rest}
use Rattle.entries.proofs.Sheets.{entries_of_sheet}
use Rattle.sheet.proofs.Accepted.{accepted_rising, all_permuted, used_permuted}
use Rattle.sheet.proofs.Whole.{whole_read, whole_accepted, length_joined}
use Rattle.sheet.proofs.Sound.{sound_made}

-- The entries of the rows that a sheet without fault is made of, in rising priority.
module _ (board : List ℕ) (rows : List (List ℕ)) (end : List ℕ) (w : WholeSheet board rows end) where
  abbrev pub arranged : List RowFields
  arranged = inserted_all (entries_on rows) []

  pub arranged_rise : Rising arranged
  arranged_rise = accepted_rising [] (entries_on rows) tt (whole_accepted board rows end w)

  pub arranged_each_once : Permuted (entries_on rows) arranged
  arranged_each_once = rw append-nil at (all_permuted [] (entries_on rows))

-- The answer for a sheet that is made as document 01 asks.
module _ (sheet : List ℕ) (m : MadeOf sheet) where
  pub answer_made : read_of sheet ≡ whole (sheet_of (cores_on m.board) (tick_on m.board) (arranged m.board m.rows m.end m.in_order))
  answer_made = ap read_of m.made ∙ whole_read m.board m.rows m.end m.in_order

  pub made_sound : (read_of sheet).verdict ≡ Ok tt
  unfolding whole
  made_sound = ap (λ (o : Outcome). o.verdict) answer_made

  entries_made : entries_of (read_of sheet).sheet ≡ arranged m.board m.rows m.end m.in_order
  unfolding whole
  entries_made =
      ap (λ (o : Outcome). entries_of o.sheet) answer_made ∙ entries_of_sheet (cores_on m.board) (tick_on m.board) (arranged m.board m.rows m.end m.in_order)

  -- the table's rows are the sheet's rows, each once, with the same labels and times
  pub rows_each_once : Permuted (entries_on m.rows) (entries_of (read_of sheet).sheet)
  rows_each_once = rw entries_made (arranged_each_once m.board m.rows m.end m.in_order)

  pub made_short : length sheet ≤ 550
  made_short =
      let w = m.in_order in
      omega
      (arith, ap length m.made, length-append m.board (joined m.rows ++ m.end), length-append (joined m.rows) m.end, (length_joined m.rows w.then_rows).most, w.few_rows, board_long m.board w.board_first, end_long m.end w.end_last)

-- a sheet without fault is at most 550 bytes
pub sound_short : (sheet : List ℕ) → (read_of sheet).verdict ≡ Ok tt → length sheet ≤ 550
sound_short sheet s = made_short sheet (sound_made sheet s)

-- Rows in another order.
entries_permuted : {rows others : List (List ℕ)} → Permuted rows others → Permuted (entries_on rows) (entries_on others)
unfolding entries_on
entries_permuted as_is = as_is
entries_permuted (keep row p) = keep (row_fields row) (entries_permuted p)
entries_permuted (swap row other) = swap (row_fields row) (row_fields other)
entries_permuted (both p q) = both (entries_permuted p) (entries_permuted q)

different_permuted : {xs ys : List RowFields} → Permuted xs ys → Different xs → Different ys
different_permuted as_is d = d
different_permuted (keep x p) d = (sym (used_permuted x.priority p) ∙ d.0, different_permuted p d.1)
different_permuted (swap {xs} x y) d =
    (used_below y.priority x xs (λ e. unused_first x.priority y xs d.0 (sym e)) ∙ d.1.0, (unused_rest x.priority y xs d.0, d.1.1))
different_permuted (both p q) d = different_permuted q (different_permuted p d)

-- two sheets whose row records are permuted give the same answer
module _ (board : List ℕ) (rows others : List (List ℕ)) (end : List ℕ) (p : Permuted rows others) (w : WholeSheet board rows end) where
  pub whole_in_any_order : WholeSheet board others end
  whole_in_any_order =
      let q = entries_permuted p in
      let l = permuted_length p in
      record {
        board_first = w.board_first;
        some_tick = w.some_tick;
        then_rows = permuted_each RowRecord p w.then_rows;
        few_rows = omega (arith, w.few_rows);
        permitted = permuted_each PriorityInRange q w.permitted;
        different = different_permuted q w.different;
        end_last = w.end_last;
        counted = w.counted ∙ l;
      }

  pub rows_in_any_order : read_of (bytes_of board others end) ≡ read_of (bytes_of board rows end)
  rows_in_any_order =
      let v = whole_in_any_order in
      let q = both (permuted_back (arranged_each_once board others end v)) (both (permuted_back (entries_permuted p)) (arranged_each_once board rows end w)) in
      let same = rising_permuted (arranged board others end v) (arranged board rows end w) (arranged_rise board others end v) (arranged_rise board rows end w) q in
      whole_read board others end v ∙ ap (λ (es : List RowFields). whole (sheet_of (cores_on board) (tick_on board) es)) same ∙ sym (whole_read board rows end w)

-- A refused sheet yields no table.
refused_is : (o : Outcome) (a b number place : ℕ) → o ≡ refused a b → o.verdict ≡ Err (fault number place) → o ≡ refused number place
unfolding refused
refused_is o a b number place e v =
    e ∙ ap (λ (w : Verdict). record { verdict = w; sheet = no_sheet }) (sym (ap (λ (x : Outcome). x.verdict) e) ∙ v)

whole_not_refused : (o : Outcome) (s : Sheet) (number place : ℕ) → o ≡ whole s → o.verdict ≡ Err (fault number place) → ⊥
unfolding whole
whole_not_refused o s number place e v =
    sound_not_refused number place (sym v ∙ ap (λ (x : Outcome). x.verdict) e)

from_refused : (limit : ℕ) (reading : Reading) (at : ℕ) (part : List ℕ) (number place : ℕ)
    → (read_from limit reading at part).verdict ≡ Err (fault number place)
    → read_from limit reading at part ≡ refused number place
from_refused zero reading at part number place e =
    refused_is (read_from 0 reading at part) 11 at number place (read_none reading at part) e
from_refused (suc limit) reading at part number place e =
    by_verdict (from_refused limit (after_record reading one) (at + size_on part) (drop (size_on part) part) number place) (verdict_at at reading part) refl
  where
    one : Record
    one = record_on part

    now : Outcome
    now = read_from (suc limit) reading at part

    Later : Type 0
    Later =
        (behind limit reading at part).verdict ≡ Err (fault number place) → behind limit reading at part ≡ refused number place

    by_end : Later → (b : Bool) → is_end one ≡ b → verdict_at at reading part ≡ Ok tt → now ≡ refused number place
    by_end later true last s =
        absurd (whole_not_refused now reading.sheet number place (read_whole reading at part limit s last) e)
    by_end later false last s =
        let on = read_on reading at part limit s last in
        on ∙ later (ap (λ (x : Outcome). x.verdict) (sym on) ∙ e)

    by_verdict : Later → (v : Verdict) → verdict_at at reading part ≡ v → now ≡ refused number place
    by_verdict later (Ok _) s = by_end later (is_end one) refl s
    by_verdict later (Err one) s = refused_is now one.number one.place number place (read_refused reading at part limit one.number one.place s) e

pub refused_no_table : (sheet : List ℕ) (number place : ℕ)
    → (read_of sheet).verdict ≡ Err (fault number place) → read_of sheet ≡ refused number place
refused_no_table sheet number place e =
    let read = read_of_lem sheet in
    read ∙ from_refused (suc (length sheet)) new_reading 0 sheet number place (ap (λ (o : Outcome). o.verdict) (sym read) ∙ e)
