-- put_polls stores the bytes of the polls one after the other.
use Rattle.replay.proofs.Writes.{Writes}
use Rattle.replay.proofs.put_polls.Given as goal

abbrev pub invariant-loop-i : goal.invariant-loop-i
invariant-loop-i l = Writes l.initial.out l.from l.fn.polls l.out l.i
