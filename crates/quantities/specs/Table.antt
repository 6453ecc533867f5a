-- A table's rows as a list, and what the functions that make a table answer.
use Rattle.std.specs.Prelude.{◌+◌, cond, List, ◌++◌, ltb, take, set, replicate}
use Rattle.quantities.specs.Limits.{row_capacity}
use Rattle.quantities.specs.Row.{no_row}
use Rattle.quantities.specs.declared.Row.{Row}
use Rattle.quantities.specs.declared.Table.{Table}

-- the rows of the table, from the top: as many as it counts, with `no_row` for those that it counts and does not keep
unfoldable pub rows_of : Table → List Row
rows_of table = take table.count (table.rows ++ replicate table.count no_row)

unfoldable pub empty_table : Table
empty_table = record { count = 0; rows = replicate row_capacity no_row }

-- the table with `row` below its rows; a full one counts one row too many, and so does one that already did
unfoldable pub with_row : Table → Row → Table
with_row table row =
    cond (ltb table.count row_capacity)
    (record { count = table.count + 1; rows = set table.rows table.count row })
    (record { count = row_capacity + 1; rows = table.rows })
