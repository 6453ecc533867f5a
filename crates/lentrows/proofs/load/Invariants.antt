-- load puts the rows of the list into a table, one after the other.
use Rattle.std.proofs.Common.{◌≡◌}
use Rattle.lentrows.specs.Loaded.{loaded}
use Rattle.lentrows.proofs.load.Given as goal

abbrev pub invariant-loop-row : goal.invariant-loop-row
invariant-loop-row l = l.table ≡ loaded l.row-index l.rows
