-- put_row answers what Table::push leaves.
use mathlib.Core.Path.{◌≡◌}
use native.Mathlib.Omega.{arith}
use lib.ListN.{length}
use Rattle.promised.proofs.Promised.{one_row_more}
use Rattle.promised.proofs.put_row.Goals as goal

pub returns : goal.returns
returns c =
    let many : length c.args.table.rows ≡ 32 = omega arith in
    one_row_more _ _ _ many c.push.ensures
