-- RowJudged::bound_of searches from the row's C to its D.
use native.Mathlib.Omega.{arith}
use mathlib.Core.Path.{ap}
use Rattle.quantities.specs.Row.{cost, deadline}
use Rattle.quantities.proofs.Rows.{row_at_lem}
use Rattle.analysis.proofs.RowJudged.bound_of.Goals as goal

pub cost-own-requires : goal.cost-own-requires
cost-own-requires c =
    omega (arith, ap cost (row_at_lem c.args.self.now.table c.args.self.now.k c.requires.stands))

pub window_of-requires : goal.window_of-requires
window_of-requires c =
    omega (arith, ap deadline (row_at_lem c.args.self.now.table c.args.self.now.k c.requires.stands))

pub returns : goal.returns
returns c =
    rw (row_at_lem c.args.self.now.table c.args.self.now.k c.requires.stands, ← c.cost-own.ensures) c.window_of.ensures
