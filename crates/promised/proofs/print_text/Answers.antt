-- print_text answers as text::print_answer does.
use Rattle.promised.proofs.Promised.{text_answer}
use Rattle.promised.proofs.print_text.Goals as goal

pub returns : goal.returns
returns c = text_answer _ _ _ _ c.print_answer.ensures
