-- Laws of a table's rows as a list.
use Prim.Native.Nat.{ℕ, suc, ◌+◌, ◌≤◌, ◌<◌}
use native.Mathlib.Omega.{arith}
use native.Mathlib.Numerals.{add-one}
use native.Mathlib.Decide.{dec_lt}
use mathlib.Core.Path.{◌≡◌, refl, ap, subst}
use mathlib.Core.List.{[], ◌∷◌, ◌++◌}
use lib.ListN.{length, get_or, take, drop, set, replicate, length-take, length-append, length-replicate, length-set, drop_of_length-le}
use lib.Seq.{get_or-take, take-append-le, take-suc-set}
use borrow.Author.Tests.{lt-ltb, le-ltb}
use Rattle.laws.specs.Each.{Each}
use Rattle.laws.proofs.Lists.{get_d_padded, each_at}
use Rattle.quantities.specs.Limits.{row_capacity}
use Rattle.quantities.specs.Row.{no_row}
use Rattle.quantities.specs.Table.{rows_of, with_row}
use Rattle.quantities.specs.declared.Row.{Row}
use Rattle.quantities.specs.declared.Table.{Table}

-- a table has as many rows as it counts
pub length_rows : (table : Table) → length (rows_of table) ≡ table.count
unfolding rows_of
length_rows table = simp (length-take, length-append, length-replicate) (omega arith)

-- the row at a place of the list is the one at that place of the table
pub row_at_lem : (table : Table) (i : ℕ) → i < table.count → get_or (rows_of table) i no_row ≡ get_or table.rows i no_row
unfolding rows_of
row_at_lem table i h = rw (get_or-take, get_d_padded)

-- no row stands past the last
pub rows_end : (table : Table) → drop table.count (rows_of table) ≡ []
rows_end table = drop_of_length-le (rows_of table) {i = table.count} (omega (arith, length_rows table))

-- what holds of each row of the list holds of each entry of the table down to its count
pub each_row : (P : Row → Type 0) (table : Table) (i : ℕ) → i < table.count → Each P (rows_of table)
    → P (get_or table.rows i no_row)
each_row P table i h each =
    subst P (row_at_lem table i h) (each_at P (rows_of table) i no_row (omega (arith, length_rows table)) each)

-- the rows of a table that keeps all that it counts
pub rows_kept : (table : Table) → table.count ≤ length table.rows → rows_of table ≡ take table.count table.rows
unfolding rows_of
rows_kept table h = take-append-le table.count table.rows (replicate table.count no_row) h

-- a table that is not full takes one row more, below its others; a full one counts one row too many
pub with_row_fits : (table : Table) (row : Row) → table.count < row_capacity
    → with_row table row ≡ record { count = table.count + 1; rows = set table.rows table.count row }
unfolding with_row
with_row_fits table row h = rw (lt-ltb table.count row_capacity h) refl

pub with_row_full : (table : Table) (row : Row) → row_capacity ≤ table.count
    → with_row table row ≡ record { count = row_capacity + 1; rows = table.rows }
unfolding with_row
with_row_full table row h = rw (le-ltb table.count row_capacity h) refl

-- so it counts one row more while there is room, never more than one too many, and keeps as many entries as it had
pub with_row_count : (table : Table) (row : Row) → table.count < row_capacity
    → (with_row table row).count ≡ table.count + 1
with_row_count table row h = ap (λ (t : Table). t.count) (with_row_fits table row h)

pub with_row_few : (table : Table) (row : Row) → (with_row table row).count ≤ suc row_capacity
with_row_few table row =
    elim (dec_lt table.count row_capacity) [
      | yes room ↦ rw (with_row_fits table row room) (omega arith)
      | no full ↦ rw (with_row_full table row (omega arith)) (omega arith)
    ]

pub with_row_length : (table : Table) (row : Row) → length (with_row table row).rows ≡ length table.rows
with_row_length table row =
    elim (dec_lt table.count row_capacity) [
      | yes room ↦ rw (with_row_fits table row room) (length-set table.rows table.count row)
      | no full ↦ rw (with_row_full table row (omega arith)) refl
    ]

pub with_row_rows : (table : Table) (row : Row) → length table.rows ≡ row_capacity → table.count < row_capacity
    → rows_of (with_row table row) ≡ rows_of table ++ (row ∷ [])
with_row_rows table row l h =
    let more : Table = record { count = table.count + 1; rows = set table.rows table.count row } in
    let room : more.count ≤ length more.rows = rw (length-set table.rows table.count row) (omega arith) in
    rw (with_row_fits table row h, rows_kept more room, rows_kept table (omega arith), add-one)
    (take-suc-set table.rows table.count row (omega arith))
