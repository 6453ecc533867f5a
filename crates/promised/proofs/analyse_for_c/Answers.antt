-- analyse_for_c answers as dipperslate_analyse does.
use Rattle.promised.proofs.Promised.{answer_for_c}
use Rattle.promised.proofs.analyse_for_c.Goals as goal

pub returns : goal.returns
returns c =
    answer_for_c c.args.cores c.args.rows.now _ _ _ c.dipperslate_analyse.ensures
