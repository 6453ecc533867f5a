-- is_used answers as Sheet::is_used does.
use Rattle.promised.proofs.Sheets.{used_answer}
use Rattle.promised.proofs.is_used.Goals as goal

pub returns : goal.returns
returns c = used_answer _ _ _ c.is_used.ensures
