-- Demand 3 over the code: what the replay of any bytes writes gives no row with a bound a response above its bound.
use Rattle.std.specs.Prelude.{ℕ, ◌≤◌, ◌≡◌, List, ◌++◌, map, length}
use Rattle.std.proofs.Math.Option.{some}
use Rattle.std.proofs.lemmas.List.Edits.{sets}
use Rattle.laws.specs.Each.{Each}
use Rattle.quantities.specs.declared.Table.{Table}
use Rattle.bench.specs.declared.Bench.{Bench}
use Rattle.bench.specs.declared.Request.{Request}
use Rattle.bench.specs.Step.{opened}
use Rattle.bench.specs.History.{call_of, steps}
use Rattle.replay.specs.Format.{answers_joined}
use Rattle.replay.specs.Replay.{requests_in, replay}
use Rattle.running.specs.Running.{bounds_of, bound_at, EndsInTime, NotUnfinished}

-- A replay wrote the answers to its first calls and no other byte; in these answers each row with a bound ends its
-- polls within it, and none is 21 for such a row.
pub record WritesInTime (cores : ℕ) (table : Table) (start : Bench) (calls out : List ℕ) : Type 0 where
  pub done : List Request
  pub left : List Request
  pub first : (requests_in calls).list ≡ done ++ left
  pub written : (replay cores table calls out).out ≡ sets out 0 (answers_joined (steps start (map call_of done)))
  pub in_time : (place : ℕ) → 1 ≤ place → place ≤ length (bounds_of cores table)
      → Each (EndsInTime place (bound_at (bounds_of cores table) place)) (steps start (map call_of done))
  pub never_21 : (place : ℕ) → 1 ≤ place → place ≤ length (bounds_of cores table)
      → Each (NotUnfinished place) (steps start (map call_of done))

-- For every table that a bench is opened for, any bytes as calls and any buffer.
abbrev pub ReplayInTime : Type 0
ReplayInTime =
    (cores : ℕ) (table : Table) (start : Bench) → opened cores table ≡ some start → (calls out : List ℕ)
    → WritesInTime cores table start calls out
