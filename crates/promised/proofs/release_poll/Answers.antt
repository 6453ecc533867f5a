-- release_poll answers as Bench::release does.
use mathlib.Core.Path.{◌≡◌}
use native.Mathlib.Omega.{arith}
use lib.ListN.{length}
use Rattle.promised.proofs.Promised.{release_answer}
use Rattle.promised.proofs.release_poll.Goals as goal

pub returns : goal.returns
returns c =
    let many : length c.args.b.states ≡ 32 = omega arith in
    release_answer _ _ _ _ many c.release.ensures
