-- Laws of the table of a sheet: its rows are those of the entries, in their order.
use Prim.Native.Nat.{ℕ, suc, ◌+◌, ◌≤◌, ◌<◌}
use native.Mathlib.Omega.{arith}
use mathlib.Core.Path.{◌≡◌, refl, sym, ap, ◌∙◌}
use mathlib.Core.List.{List, [], ◌∷◌, ◌++◌, map, append_assoc, append-nil}
use native.Mathlib.Numerals.{add-one}
use lib.ListN.{length, get_or, drop, drop_of_length-le}
use lib.Seq.{drop-cons}
use Rattle.quantities.specs.Limits.{row_capacity}
use Rattle.quantities.specs.Table.{rows_of, empty_table, with_row}
use Rattle.quantities.specs.declared.Table.{Table}
use Rattle.quantities.specs.declared.Micros.{Micros}
use Rattle.quantities.proofs.Rows.{with_row_count, with_row_length, with_row_rows}
use Rattle.entries.specs.Entries.{row_in, table_with, table_in, table_of, sheet_of}
use Rattle.records.specs.declared.RowFields.{RowFields}
use Rattle.entries.proofs.Sheets.{entries_of_sheet, tick_of_sheet}

-- the entries from a place on: one row is put below, and those behind it are left; at the end none is
module _ (tick : Micros) (table : Table) (entries : List RowFields) (n : ℕ) where
  pub table_with_one : (entry : RowFields) → n < length entries → entry ≡ get_or entries n entry
      → table_with tick (with_row table (row_in tick entry)) (drop (n + 1) entries) ≡ table_with tick table (drop n entries)
  unfolding table_with
  table_with_one entry h is =
      rw (drop-cons entries n entry h, add-one)
      (ap (λ (one : RowFields). table_with tick (with_row table (row_in tick one)) (drop (suc n) entries)) is)

  pub table_with_all : n ≡ length entries → table_with tick table (drop n entries) ≡ table
  unfolding table_with
  table_with_all e = rw (drop_of_length-le entries {i = n} (omega arith)) refl

-- a table with the entries' rows below its own
pub table_with_rows : (tick : Micros) (table : Table) (entries : List RowFields) → length table.rows ≡ row_capacity → table.count + length entries ≤ row_capacity
    → rows_of (table_with tick table entries) ≡ rows_of table ++ map (row_in tick) entries
unfolding table_with
table_with_rows tick table [] l h = sym (append-nil (rows_of table))
table_with_rows tick table (entry ∷ entries) l h =
    let row = row_in tick entry in
    let size = with_row_length table row ∙ l in
    let more : (with_row table row).count + length entries ≤ row_capacity =
    omega (arith, with_row_count table row (omega arith)) in
    table_with_rows tick (with_row table row) entries size more
    ∙ rw (with_row_rows table row l (omega arith)) (append_assoc (rows_of table) (row ∷ []) (map (row_in tick) entries))

-- the table of a sheet has the rows of its entries, in ticks of any length
pub table_rows_in : (cores : ℕ) (own tick : Micros) (entries : List RowFields) → length entries ≤ row_capacity
    → rows_of (table_in (sheet_of cores own entries) tick) ≡ map (row_in tick) entries
unfolding table_in empty_table rows_of
table_rows_in cores own tick entries h =
    rw (entries_of_sheet cores own entries) (table_with_rows tick empty_table entries refl (omega arith))

-- and in its own
pub table_rows : (cores : ℕ) (tick : Micros) (entries : List RowFields) → length entries ≤ row_capacity
    → rows_of (table_of (sheet_of cores tick entries)) ≡ map (row_in tick) entries
unfolding table_of
table_rows cores tick entries h =
    let own = tick_of_sheet cores tick entries in
    ap (λ (length : Micros). rows_of (table_in (sheet_of cores tick entries) length)) own
    ∙ table_rows_in cores tick tick entries h
