-- read_input answers how many bytes it read, within its room; each turn reads one byte or more.
use Rattle.std.proofs.Common.{length, ◌≡◌, ◌-◌, ◌≤◌}
use Rattle.dipperslate.proofs.read_input.Given as goal

abbrev pub invariant-loop-n : goal.invariant-loop-n
invariant-loop-n l = (l.n ≤ length l.input) × (length l.input ≡ length l.initial.input)

abbrev pub decreases-loop-n : goal.decreases-loop-n
decreases-loop-n l = length l.input - l.n
