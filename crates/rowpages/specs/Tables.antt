-- The table: its named limits, the rows of a table that is made row by row, and its own checks 1 to 6.
use Rattle.std.specs.Prelude.{ℕ, ◌≤◌, ◌<◌, ◌≡◌, [], ◌∷◌, ◌++◌, length, take, Ok, Err}
use Rattle.quantities.specs.Paper.{Paper}
use Rattle.quantities.specs.declared.Row.{Row}
use Rattle.quantities.specs.declared.Table.{Table}
use Rattle.quantities.specs.Limits.{row_capacity, core_limit, largest_gap}
use Rattle.quantities.specs.Table.{rows_of, empty_table, with_row}
use Rattle.laws.specs.Checks.{FirstFailing}
use Rattle.quantities.specs.Checks.{list_fault, checked_of}
use Rattle.rowpages.specs.Lists.{list_order, fault_at, ListInRange}

-- Row capacity, core limit and largest gap belong to the table's own type as named constants.
pub record NamedLimits : Type 0 where
  pub rows : row_capacity ≡ 32
  pub cores : core_limit ≡ 16
  pub gap : largest_gap ≡ 1000000

-- A table has as many rows as it counts: the first of its entries. One is made empty, and row by row, each
-- below the others; a full one counts a 33rd row, so that 1 turns it away.
pub record TableMade : Type 0 where
  pub counts : (table : Table) → length (rows_of table) ≡ table.count
  pub holds : (table : Table) → table.count ≤ length table.rows
      → rows_of table ≡ take table.count table.rows
  pub empty : rows_of empty_table ≡ []
  pub one_more : (table : Table) (row : Row) → length table.rows ≡ 32 → table.count < 32
      → rows_of (with_row table row) ≡ rows_of table ++ (row ∷ [])
  pub full : (table : Table) (row : Row) → 32 ≤ table.count → length (rows_of (with_row table row)) ≡ 33
  pub full_keeps : (table : Table) (row : Row) → 32 ≤ table.count → (with_row table row).rows ≡ table.rows

-- `Table::check` answers checks 1 to 6 in the order of a list.
pub record TableChecked : Type 0 where
  pub faulty : (cores : ℕ) (table : Table) (one : Paper) → FirstFailing (list_order cores (rows_of table)) one
      → checked_of (list_fault cores (rows_of table)) ≡ Err (fault_at one.number one.place)
  pub sound : (cores : ℕ) (table : Table) → ListInRange cores (rows_of table)
      → checked_of (list_fault cores (rows_of table)) ≡ Ok tt
