-- load_of answers the load of one row above: its interference without and with carry-in, and its room.
use Prim.Native.Nat.{ℕ, ◌+◌, ◌*◌, ◌/◌, ◌≤◌}
use native.Mathlib.Nat.{le_trans}
use Rattle.quantities.specs.Row.{cost, gap}
use Rattle.windows.specs.Window.{plain, carry}
use Rattle.windows.specs.Choice.{Bounded, bounded, load}
use Rattle.windows.specs.Jump.{room}
use Rattle.windows.proofs.Window.{plain_le_polls, interference_le_work}
use Rattle.analysis.proofs.load_of.Goals as goal

-- what a row takes is at most its work, and without carry-in at most its polls
without_le_polls : (own x : ℕ) (b : Bounded) → (load own x b).without ≤ x / gap b.row * cost b.row + cost b.row
without_le_polls own x b =
    le_trans (interference_le_work own x (plain (cost b.row) (gap b.row) x))
    (plain_le_polls (cost b.row) (gap b.row) x)

carrying_le_carry : (own x : ℕ) (b : Bounded) → (load own x b).carrying ≤ carry (cost b.row) (gap b.row) b.bound x
carrying_le_carry own x b = interference_le_work own x (carry (cost b.row) (gap b.row) b.bound x)

pub overflow_sub-unfinished : goal.overflow_sub-unfinished
overflow_sub-unfinished c =
    rw (c.interference-without.ensures, c.plain_work-plain.ensures)
    (rw (c.polls_work-polls.ensures, c.cost-cost.ensures)
    (without_le_polls c.args.own.0 c.args.window.0 (bounded c.args.row c.args.bound.0)))

pub overflow_sub-cut : goal.overflow_sub-cut
overflow_sub-cut c =
    rw (c.interference-carrying.ensures, c.carry_work-carry.ensures)
    (rw c.cost-cost.ensures
    (carrying_le_carry c.args.own.0 c.args.window.0 (bounded c.args.row c.args.bound.0)))

pub returns : goal.returns
unfolding room
returns c =
    let cost = c.cost-cost.ensures in
    let plain = c.plain_work-plain.ensures in
    let carry = c.carry_work-carry.ensures in
    let without = c.interference-without.ensures in
    let carrying = c.interference-carrying.ensures in
    record {
      without = simp (without, plain, cost);
      carrying = simp (carrying, carry, cost);
      roominess = simp (c.min.ensures, without, plain, carrying, carry, c.polls_work-polls.ensures, cost);
    }
