-- replay_calls answers as replay::replay does.
use Rattle.promised.proofs.Promised.{replay_answer}
use Rattle.promised.proofs.replay_calls.Goals as goal

pub returns : goal.returns
returns c =
    let done = c.replay.ensures in
    replay_answer _ _ _ _ _ _ done.value done.out_after
