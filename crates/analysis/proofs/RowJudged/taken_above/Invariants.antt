-- RowJudged::taken_above keeps, for each number of carriers, the most that the rows passed take, and counts those with
-- room. The last row passed is the nearest, so it stands first in the list of the rows above.
use Prim.Native.Nat.{ℕ, ◌-◌, ◌≤◌}
use mathlib.Core.Path.{◌≡◌}
use mathlib.Core.List.{List}
use lib.ListN.{length, get_or}
use Rattle.quantities.specs.Limits.{core_limit}
use Rattle.quantities.specs.declared.Table.{Table}
use Rattle.quantities.specs.declared.Ticks.{Ticks}
use Rattle.windows.specs.Choice.{loads, most}
use Rattle.windows.specs.Jump.{rooms, roomy, least_room}
use Rattle.analysis.specs.Engine.{largest_window, above}
use Rattle.analysis.proofs.RowJudged.taken_above.Given as goal

pub record In (cores : ℕ) (table : Table) (bounds : List Ticks) (k own x : ℕ) (mosts : List ℕ) (count least i : ℕ) : Type 0 where
  pub le : i ≤ k
  pub few : count ≤ i
  pub long : length mosts ≡ core_limit
  pub mostly : (m : ℕ) → m ≤ cores - 1 → get_or mosts m 0 ≡ most (loads own x (above table bounds i)) m
  pub counted : count ≡ roomy 1 (rooms own x (above table bounds i))
  pub smallest : least ≡ least_room largest_window (rooms own x (above table bounds i))

abbrev pub invariant-loop-row : goal.invariant-loop-row
invariant-loop-row l =
    In l.self.cores l.self.table l.self.bounds l.self.k l.own.0 l.window.0 l.mosts l.rooms.count l.rooms.least.0 (length l.yielded)
