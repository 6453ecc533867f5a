-- run: after so many ticks the bench is the one after the history of as many.
use Rattle.std.proofs.Common.{◌≡◌}
use Rattle.bench.specs.History.{after}
use Rattle.lentbench.specs.Lent.{ticks_for}
use Rattle.lentbench.proofs.run.Given as goal

abbrev pub invariant-loop : goal.invariant-loop
invariant-loop l = l.b ≡ after l.fn.b (ticks_for l.counter)
