-- judge_release answers as Bench::judge_release does.
use Rattle.promised.proofs.Promised.{release_judged}
use Rattle.promised.proofs.judge_release.Goals as goal

pub returns : goal.returns
returns c = release_judged _ _ _ _ c.judge_release.ensures
