-- Demand 3, the reason for the tool: on a running board no poll of a row takes longer than the row's bound.
use Rattle.std.specs.Prelude.{ℕ, ◌+◌, ◌-◌, ◌≤◌, ◌<◌, ◌≡◌, List, length, get_or, Option, None, Some}
use Rattle.std.proofs.Math.Option.{some}
use Rattle.laws.specs.Each.{Each}
use Rattle.quantities.specs.declared.Table.{Table}
use Rattle.quantities.specs.Table.{rows_of}
use Rattle.quantities.specs.Paper.{paper}
use Rattle.windows.specs.Answer.{judged}
use Rattle.quantities.specs.declared.Instant.{Instant}
use Rattle.bench.specs.declared.Bench.{Bench}
use Rattle.bench.specs.declared.Finish.{Finish}
use Rattle.bench.specs.State.{state_at, work}
use Rattle.bench.specs.Refusal.{outcome_paper}
use Rattle.bench.specs.Step.{Step, opened, release}
use Rattle.bench.specs.History.{Call, after, steps}

-- the bounds that the analysis gives the rows of a table: all of them, or those above the first row not shown
abbrev pub bounds_of : (cores : ℕ) → Table → List ℕ
bounds_of cores table = (judged cores (rows_of table)).bounds

-- the bound of the row at a place, counted from 1
abbrev pub bound_at : List ℕ → (place : ℕ) → ℕ
bound_at bounds place = get_or bounds (place - 1) 0

-- A last release was less than `bound` ticks before `now`.
abbrev pub LessAgo : (now bound : ℕ) → Option Instant → Type 0
LessAgo now bound None = ⊥
LessAgo now bound (Some at) = now < at.0 + bound

-- The row at a place has work left only less than `bound` ticks after its release. From then on its poll is over.
abbrev pub OverInTime : (place bound : ℕ) → Bench → Type 0
OverInTime place bound b = 0 < work (state_at b place) → LessAgo b.now.0 bound (state_at b place).last

-- Each poll of the row at a place that ends in this step took at most `bound` ticks.
abbrev pub EndsInTime : (place bound : ℕ) → Step → Type 0
EndsInTime place bound step =
    Each (λ (poll : Finish). poll.place ≡ place → poll.response.0 ≤ bound) step.finishes

-- The step does not answer 21 for the row at a place: that its last poll is unfinished.
abbrev pub NotUnfinished : (place : ℕ) → Step → Type 0
NotUnfinished place step = outcome_paper step.outcome ≡ paper 21 place → ⊥

-- A bound holds for the row at a place in a history of calls from a bench: in the state after the history, in
-- every step of it, and for any release that may come next.
pub record Holds (start : Bench) (calls : List Call) (place bound : ℕ) : Type 0 where
  pub over_in_time : OverInTime place bound (after start calls)
  pub ends_in_time : Each (EndsInTime place bound) (steps start calls)
  pub not_unfinished : Each (NotUnfinished place) (steps start calls)
  pub next_not_unfinished : (demand : ℕ) → NotUnfinished place (release (after start calls) place demand)

-- Demand 3. A bench is opened for a table, and any calls are made on it, refused ones among them. Then the
-- bound of every row that has one holds.
abbrev pub BoundsHold : Type 0
BoundsHold =
    (cores : ℕ) (table : Table) (start : Bench) → opened cores table ≡ some start → (calls : List Call)
    (place : ℕ) → 1 ≤ place → place ≤ length (bounds_of cores table)
    → Holds start calls place (bound_at (bounds_of cores table) place)
