-- answer_request answers as Bench::answer does.
use mathlib.Core.Path.{◌≡◌}
use native.Mathlib.Omega.{arith}
use lib.ListN.{length}
use Rattle.promised.proofs.Promised.{request_answer}
use Rattle.promised.proofs.answer_request.Goals as goal

pub returns : goal.returns
returns c =
    let many : length c.args.b.states ≡ 32 = omega arith in
    request_answer _ _ _ many c.answer.ensures
