-- check_rows answers the first fault of the table's rows. The loop's invariant: the rows passed have none.
use Rattle.std.proofs.Common.{◌≡◌, suc, drop}
use Rattle.quantities.specs.Checks.{rows_fault}
use Rattle.quantities.proofs.check_rows.Given as goal

abbrev pub invariant-loop-i : goal.invariant-loop-i
invariant-loop-i l = rows_fault 1 l.row-items ≡ rows_fault (suc l.i) (drop l.i l.row-items)
