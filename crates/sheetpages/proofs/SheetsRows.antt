-- What the reading of a sheet stands for, in bytes, behind the board record and rows that fail no check.
use Prim.Native.Nat.{ℕ, zero, suc, ◌+◌, ◌/◌, ◌≤◌, ◌<◌}
use native.Mathlib.Omega.{arith}
use native.Mathlib.Decide.{ℕ_discrete}
use native.Mathlib.Nat.{div-mul-le_self, lt-div-mul-add}
use mathlib.Core.Path.{◌≡◌, refl, sym, ap, subst, ◌∙◌}
use mathlib.Core.Bool.{true, false}
use mathlib.Core.List.{List, [], ◌∷◌, ◌++◌, map}
use lib.Dec.{eqb, ltb}
use lib.ListN.{length, get_or, drop, length-drop, length-append, get_or-append}
use lib.Seq.{get_or-append_seam}
use borrow.Author.Tests.{leb-false, ltb-false, eqb-false, eqb-true, not-false}
use Rattle.laws.specs.Permuted.{Permuted, as_is}
use Rattle.laws.proofs.Permuted.{permuted_length}
use Rattle.records.specs.Records.{size_on, is_row_kind, kind_on, row_fields, is_end}
use Rattle.records.proofs.Bytes.{field_one, field_two}
use Rattle.records.proofs.Records.{size_board, is_row_kind_lem, row_length_lem}
use Rattle.records.proofs.Parts.{on_board, on_row}
use Rattle.entries.specs.Entries.{ticks_of, row_in, no_entry, used, inserted, Rising}
use Rattle.sheet.specs.Checks.{verdict_of}
use Rattle.sheet.specs.Reader.{new_reading, after_record}
use Rattle.records.specs.declared.RowFields.{RowFields}
use Rattle.sheet.specs.declared.Reading.{Reading}
use Rattle.sheet.proofs.Faults.{verdict_none}
use Rattle.sheet.proofs.Reader.{verdict_at, Reads, reads_new, turn_on}
use Rattle.sheet.proofs.Readings.{entered_more}
use Rattle.entries.proofs.Order.{inserted_permuted, inserted_rising}
use Rattle.sheet.proofs.Accepted.{used_permuted}
use Rattle.entries.proofs.Sheets.{board_sheet_lem}
use Rattle.sheet.proofs.Whole.{rows_at, after_row}
use Rattle.sheetpages.specs.Sheets.{
  byte,
  behind,
  cores_of,
  tick_of,
  priority_at,
  used_before,
  board_order,
  row_record_order,
  later_order,
  AllPass,
  RowsPass,
  InTicks,
  RowRead,
  RowsInTicks,
}
use Rattle.sheetpages.proofs.SheetsChecks.{
  kind_of_part,
  two_of_part,
  four_of_part,
  board_verdict,
  later_verdict,
}

-- What it says of the bytes that the board record, or a row record after this many rows, fails no check.
pub record BoardBytes (sheet : List ℕ) : Type 0 where
  pub is_board : byte sheet 0 ≡ 1
  pub long : 4 ≤ length sheet
  pub some_tick : 0 < tick_of sheet

pub board_bytes_lem : (sheet : List ℕ) → AllPass (board_order sheet) → BoardBytes sheet
board_bytes_lem sheet passed =
    let kind = eqb-true (byte sheet 0) 1 (not-false (eqb (byte sheet 0) 1) passed.1.1.0) in
    let whole : ltb (length sheet) 4 ≡ false = rw kind at passed.1.1.1.0 in
    let tick = eqb-false (tick_of sheet) 0 passed.1.1.1.1.0 in
    record { is_board = kind; long = ltb-false (length sheet) 4 whole; some_tick = omega arith }

pub record RowBytes (sheet : List ℕ) (n : ℕ) : Type 0 where
  pub long : behind n + 17 ≤ length sheet
  pub room : n < 32
  pub unused : used_before sheet n (priority_at sheet (behind n)) ≡ false

pub row_bytes_lem : (sheet : List ℕ) (n : ℕ) → AllPass (later_order sheet n) → byte sheet (behind n) ≡ 2
    → RowBytes sheet n
row_bytes_lem sheet n passed kind =
    let whole : ltb (length sheet) (behind n + 1 + 16) ≡ false = rw kind at passed.1.1.1.0 in
    let row : AllPass (row_record_order sheet n) = rw kind at passed.1.1.1.1 in
    let fits = ltb-false (length sheet) (behind n + 1 + 16) whole in
    record { long = omega arith; room = leb-false 32 n row.0; unused = row.1.1.0 }

pub few_rows : (sheet : List ℕ) (n : ℕ) → RowsPass sheet n → n ≤ 32
few_rows sheet zero passed = omega arith
few_rows sheet (suc n) passed = omega (arith, (row_bytes_lem sheet n passed.1 passed.2).room)

-- Whole division: the ticks of a time, and the rows of entries in ticks.
in_ticks : (tick time : ℕ) → 0 < tick → InTicks tick time (time / tick)
in_ticks tick time some =
    record {
      no_more = omega (arith, div-mul-le_self time tick);
      no_less = omega (arith, lt-div-mul-add {a = time} some);
    }

pub rows_in_ticks : (tick : ℕ) (entries : List RowFields) → 0 < tick
    → RowsInTicks tick entries (map (row_in (record { 0 = tick })) entries)
unfolding row_in ticks_of
rows_in_ticks tick [] some = tt
rows_in_ticks tick (entry ∷ entries) some = (
  record {
    c = in_ticks tick entry.c.0 some;
    d = in_ticks tick entry.d.0 some;
    t = in_ticks tick entry.t.0 some;
  },
  rows_in_ticks tick entries some,
)

-- the entry that the row record at a place gives
module _ (sheet : List ℕ) (at : ℕ) where
  pub entry_at : RowFields
  entry_at = row_fields (drop at sheet)

  module _ (long : at + 17 ≤ length sheet) where
    pub entry_priority : entry_at.priority ≡ priority_at sheet at
    unfolding entry_at row_fields
    entry_priority = two_of_part sheet at 3 (at + 3) refl (omega arith)

    pub entry_read : RowRead sheet at entry_at
    unfolding entry_at row_fields
    entry_read =
        record {
          label = two_of_part sheet at 1 (at + 1) refl (omega arith);
          priority = two_of_part sheet at 3 (at + 3) refl (omega arith);
          c = four_of_part sheet at 5 (at + 5) refl (omega arith);
          d = four_of_part sheet at 9 (at + 9) refl (omega arith);
          t = four_of_part sheet at 13 (at + 13) refl (omega arith);
        }

-- the reading of a sheet with these entries so far
abbrev pub reading_of : List ℕ → List RowFields → Reading
reading_of sheet entries = rows_at (cores_of sheet) (record { 0 = tick_of sheet }) entries

-- The reading behind the board and this many rows: its entries are those of the row records, in rising
-- priority.
pub record Past (sheet : List ℕ) (n : ℕ) : Type 0 where
  pub entries : List RowFields
  pub in_order : List RowFields
  pub reads : Reads sheet (reading_of sheet entries) (behind n)
  pub some_tick : 0 < tick_of sheet
  pub as_many : length in_order ≡ n
  pub each_row : (i : ℕ) → i < n → RowRead sheet (behind i) (get_or in_order i no_entry)
  pub each_once : Permuted in_order entries
  pub rise : Rising entries
  pub same_used : (p : ℕ) → used p entries ≡ used_before sheet n p

pub past_count : (sheet : List ℕ) (n : ℕ) (past : Past sheet n) → length past.entries ≡ n
past_count sheet n past = sym (permuted_length past.each_once) ∙ past.as_many

-- the checks of the record behind them give the reader's verdict on it
pub past_verdict : (sheet : List ℕ) (n : ℕ) (past : Past sheet n)
    → verdict_of (later_order sheet n)
    ≡ verdict_at (behind n) (reading_of sheet past.entries) (drop (behind n) sheet)
past_verdict sheet n past =
    later_verdict sheet n (cores_of sheet) (record { 0 = tick_of sheet }) past.entries past.reads.within
    (past_count sheet n past) past.same_used

past_board : (sheet : List ℕ) → AllPass (board_order sheet) → Past sheet 0
unfolding used is_end after_record new_reading
past_board sheet passed =
    let b = board_bytes_lem sheet passed in
    let on = on_board sheet b.is_board b.long in
    let sound = sym (board_verdict sheet) ∙ verdict_none (board_order sheet) passed in
    let cores = field_one sheet 1 (omega (arith, b.long)) in
    let tick = field_two sheet 2 (omega (arith, b.long)) in
    let turned = turn_on sheet new_reading 0 (reads_new sheet) sound (ap is_end on) in
    let first : Reads sheet (reading_of sheet []) 4 = rw (on, size_board sheet b.is_board, board_sheet_lem, cores, tick) at turned in
    record {
      entries = [];
      in_order = [];
      reads = first;
      some_tick = b.some_tick;
      as_many = refl;
      each_row = λ i h. absurd (omega arith);
      each_once = as_is;
      rise = tt;
      same_used = λ p. refl;
    }

-- One row more.
module _ (sheet : List ℕ) (n : ℕ) (past : Past sheet n) (passed : AllPass (later_order sheet n))
    (kind : byte sheet (behind n) ≡ 2) where
  abbrev new : RowFields
  new = entry_at sheet (behind n)

  here : RowBytes sheet n
  here = row_bytes_lem sheet n passed kind

  reads_row : Reads sheet (reading_of sheet (inserted new past.entries)) (behind (suc n))
  unfolding is_end entry_at
  reads_row =
      let part = drop (behind n) sheet in
      let is : is_row_kind (kind_on part) ≡ true = is_row_kind_lem (kind_on part) (kind_of_part sheet (behind n) ∙ kind) in
      let size : size_on part ≡ 17 = row_length_lem (kind_on part) is in
      let on = on_row part is (omega (arith, here.long, length-drop (behind n) sheet)) in
      let sound = sym (past_verdict sheet n past) ∙ verdict_none (later_order sheet n) passed in
      let room : length past.entries < 32 = omega (arith, here.room, past_count sheet n past) in
      let reading = reading_of sheet (inserted new past.entries) in
      let after = after_row (cores_of sheet) (record { 0 = tick_of sheet }) past.entries (row_fields part) room in
      let turned = turn_on sheet (reading_of sheet past.entries) (behind n) past.reads sound (ap is_end on) in
      let next : Reads sheet reading (behind n + 17) = rw (on, size, after) at turned in
      subst (λ (at : ℕ). Reads sheet reading at) (omega arith) next

  -- the priority of the new row counts as used, and those before it do
  used_row : (p : ℕ) → used p (inserted new past.entries) ≡ used_before sheet (suc n) p
  unfolding used
  used_row p =
      sym (used_permuted p (inserted_permuted new past.entries))
      ∙ rw (entry_priority sheet (behind n) here.long, past.same_used p) refl

  unused_row : used new.priority past.entries ≡ false
  unused_row =
      past.same_used new.priority ∙ rw (entry_priority sheet (behind n) here.long) here.unused

  each_row_more : (i : ℕ) → i < suc n → RowRead sheet (behind i) (get_or (past.in_order ++ new ∷ []) i no_entry)
  each_row_more i h =
      elim (ℕ_discrete i n) [
        | yes last ↦
            let same : i ≡ length past.in_order = last ∙ sym past.as_many in
            rw (
              ap (λ (j : ℕ). get_or (past.in_order ++ new ∷ []) j no_entry) same
                  ∙ get_or-append_seam past.in_order new [] no_entry,
              last,
            )
            (entry_read sheet (behind n) here.long)
        | no other ↦
            rw
            (get_or-append past.in_order (new ∷ []) no_entry i (omega (arith, past.as_many)))
            (past.each_row i (omega arith))
      ]

  past_row : Past sheet (suc n)
  past_row =
      record {
        entries = inserted new past.entries;
        in_order = past.in_order ++ new ∷ [];
        reads = reads_row;
        some_tick = past.some_tick;
        as_many = omega (arith, length-append past.in_order (new ∷ []), past.as_many);
        each_row = each_row_more;
        each_once = entered_more new past.in_order past.entries past.each_once;
        rise = inserted_rising new past.entries past.rise unused_row;
        same_used = used_row;
      }

pub past : (sheet : List ℕ) (n : ℕ) → RowsPass sheet n → Past sheet n
past sheet zero passed = past_board sheet passed
past sheet (suc n) passed = past_row sheet n (past sheet n passed.0) passed.1 passed.2
