-- serve makes a tick by one turn for each row of the table.
use Rattle.std.proofs.Common.{◌++◌, drop}
use Rattle.bench.proofs.Turns.{Serves}
use Rattle.bench.proofs.tick.serve.Given as goal

abbrev pub invariant-loop-i : goal.invariant-loop-i
invariant-loop-i l = Serves l.b (l.state-items ++ drop l.b.table.count l.b.states) l.free l.finishes l.i
