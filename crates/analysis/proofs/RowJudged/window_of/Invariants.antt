-- RowJudged::window_of searches upward by jumps; no window before the present one passes.
use Prim.Native.Nat.{ℕ, suc, ◌-◌, ◌≤◌}
use mathlib.Core.List.{List}
use Rattle.windows.specs.Choice.{Bounded, Passes}
use Rattle.windows.proofs.Least.{NoneBefore}
use Rattle.analysis.specs.Engine.{above}
use Rattle.analysis.proofs.RowJudged.window_of.Given as goal

pub record In (cores own : ℕ) (rows : List Bounded) (x : ℕ) : Type 0 where
  pub low : own ≤ x
  pub before : NoneBefore (Passes cores own rows) own x

abbrev pub invariant-loop-x : goal.invariant-loop-x
invariant-loop-x l = In l.self.cores l.own.0 (above l.self.table l.self.bounds l.self.k) l.x

abbrev pub decreases-loop-x : goal.decreases-loop-x
decreases-loop-x l = suc l.top.0 - l.x
