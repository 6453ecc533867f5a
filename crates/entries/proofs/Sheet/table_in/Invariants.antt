-- Sheet::table_in answers the table of the sheet's rows in ticks of a length. The loop's invariant: the table has the rows of the entries passed.
use mathlib.Core.Path.{◌≡◌}
use lib.ListN.{length, drop}
use Rattle.entries.specs.Entries.{entries_of, table_with, table_in}
use Rattle.entries.proofs.Sheet.table_in.Given as goal

abbrev pub invariant-loop-entry : goal.invariant-loop-entry
invariant-loop-entry l =
    table_with l.tick l.table (drop (length l.yielded) (entries_of l.fn.self)) ≡ table_in l.fn.self l.tick
