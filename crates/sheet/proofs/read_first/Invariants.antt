-- read_first answers the first sheet. The loop's invariant: what is read from here on is the first sheet.
use Prim.Native.Nat.{◌-◌}
use lib.ListN.{length}
use Rattle.sheet.proofs.Reader.{Reads}
use Rattle.sheet.proofs.read_first.Given as goal

abbrev pub invariant-loop-fault : goal.invariant-loop-fault
invariant-loop-fault l = Reads l.bytes l.reading l.at

abbrev pub decreases-loop-fault : goal.decreases-loop-fault
decreases-loop-fault l = length l.bytes - l.at
