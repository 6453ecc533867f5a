-- open_bench answers as Bench::opened does.
use Rattle.promised.proofs.Promised.{opening_answer}
use Rattle.promised.proofs.open_bench.Goals as goal

pub returns : goal.returns
returns c = opening_answer _ _ _ c.opened.ensures
