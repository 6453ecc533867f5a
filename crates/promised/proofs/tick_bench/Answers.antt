-- tick_bench answers as Bench::tick does.
use mathlib.Core.Path.{◌≡◌}
use native.Mathlib.Omega.{arith}
use lib.ListN.{length}
use Rattle.promised.proofs.Promised.{tick_answer}
use Rattle.promised.proofs.tick_bench.Goals as goal

pub returns : goal.returns
returns c =
    let many : length c.args.b.states ≡ 32 = omega arith in
    tick_answer _ _ many c.tick.ensures
