-- check_table answers as Table::check does.
use Rattle.promised.proofs.Promised.{table_answer}
use Rattle.promised.proofs.check_table.Goals as goal

pub returns : goal.returns
returns c = table_answer _ _ _ c.check.ensures
