-- The table that the rows of a list make.
use Rattle.std.specs.Prelude.{ℕ, zero, suc, List, length}
use Rattle.quantities.specs.Table.{empty_table, with_row}
use Rattle.quantities.specs.declared.Row.{Row}
use Rattle.quantities.specs.declared.Table.{Table}
use Rattle.windows.specs.Judgement.{row_of_index}

-- the table of the first k rows
unfoldable pub loaded : ℕ → List Row → Table
loaded zero rows = empty_table
loaded (suc k) rows = with_row (loaded k rows) (row_of_index rows k)

-- the table of all rows of the list
abbrev pub loaded_table : List Row → Table
loaded_table rows = loaded (length rows) rows
