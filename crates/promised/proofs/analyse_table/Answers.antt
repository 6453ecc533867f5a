-- analyse_table answers as analysis::analyse does.
use Rattle.promised.proofs.Promised.{analysis_answer}
use Rattle.promised.proofs.analyse_table.Goals as goal

pub returns : goal.returns
returns c = analysis_answer _ _ _ c.analyse.ensures
