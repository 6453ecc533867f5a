-- is_broken answers as Bench::broken does.
use Rattle.promised.proofs.Promised.{broken_answer}
use Rattle.promised.proofs.is_broken.Goals as goal

pub returns : goal.returns
returns c = broken_answer _ _ c.broken.ensures
