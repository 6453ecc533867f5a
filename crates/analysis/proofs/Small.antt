-- What rows above take stays small: no sum of the engine comes near what a number holds.
use Prim.Native.Nat.{ℕ, suc, ◌*◌, ◌≤◌}
use native.Mathlib.Omega.{arith}
use native.Mathlib.Nat.{le_trans, mul-le-mul}
use mathlib.Core.List.{List}
use lib.ListN.{length}
use Rattle.quantities.specs.Limits.{row_capacity}
use Rattle.quantities.specs.Row.{cost, gap}
use Rattle.quantities.specs.Table.{rows_of}
use Rattle.quantities.specs.Lengths.{numbers}
use Rattle.quantities.specs.declared.Table.{Table}
use Rattle.quantities.specs.declared.Ticks.{Ticks}
use Rattle.windows.specs.Window.{plain, carry, limit}
use Rattle.windows.specs.Choice.{Bounded, load, loads, most}
use Rattle.windows.proofs.Window.{interference_le_limit}
use Rattle.windows.proofs.Choice.{most_le_limit}
use Rattle.analysis.specs.Engine.{largest_window, above}
use Rattle.windows.proofs.Judgement.{length_above}

-- no row takes more than the limit, and the limit is at most one tick more than the window
pub limit_small : (own x : ℕ) → x ≤ largest_window → limit own x ≤ suc largest_window
unfolding limit
limit_small own x h = omega arith

-- there are no more rows above than a table has
pub few_above : (table : Table) (bounds : List Ticks) (i : ℕ) → i ≤ row_capacity
    → length (above table bounds i) ≤ row_capacity
few_above table bounds i few = omega (arith, length_above (rows_of table) (numbers bounds) i)

-- so what they take stays small
pub most_small : (own x m : ℕ) (rows : List Bounded) → length rows ≤ row_capacity → x ≤ largest_window
    → most (loads own x rows) m ≤ row_capacity * suc largest_window
most_small own x m rows few short =
    le_trans (most_le_limit own x m rows) (mul-le-mul few (limit_small own x short))

-- and so does what one of them takes
pub load_small : (own x : ℕ) (b : Bounded) → x ≤ largest_window
    → ((load own x b).without ≤ suc largest_window) × ((load own x b).carrying ≤ suc largest_window)
load_small own x b h = (
  le_trans (interference_le_limit own x (plain (cost b.row) (gap b.row) x)) (limit_small own x h),
  le_trans (interference_le_limit own x (carry (cost b.row) (gap b.row) b.bound x)) (limit_small own x h),
)
