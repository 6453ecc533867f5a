-- bounds_of walks down the table; the bounds found so far are those of the rows above.
use Rattle.analysis.proofs.SoFar.{SoFar}
use Rattle.analysis.proofs.bounds_of.Given as goal

abbrev pub invariant-loop-k : goal.invariant-loop-k
invariant-loop-k l = SoFar l.cores l.table l.bounds l.k
