-- judge_tick answers as Bench::judge_tick does.
use Rattle.promised.proofs.Promised.{tick_judged}
use Rattle.promised.proofs.judge_tick.Goals as goal

pub returns : goal.returns
returns c = tick_judged _ _ c.judge_tick.ensures
