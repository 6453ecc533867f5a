-- no_rows answers as Table::empty does.
use Rattle.promised.proofs.Promised.{no_rows_yet}
use Rattle.promised.proofs.no_rows.Goals as goal

pub returns : goal.returns
returns c = no_rows_yet _ c.empty.ensures
