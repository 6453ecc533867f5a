-- tell_table answers as lentrows::answer_for does.
use Rattle.promised.proofs.Promised.{told_answer}
use Rattle.promised.proofs.tell_table.Goals as goal

pub returns : goal.returns
returns c = told_answer _ _ _ _ c.answer_for.ensures
