-- Histories of calls: what a run of one call after another is, and the books of a row.
use Rattle.std.specs.Prelude.{ℕ, ◌+◌, ◌-◌, ◌≤◌, ◌≡◌, Bool, true, false, cond, ◌&&◌, List, [], ◌∷◌, eqb, length, Ok, Err}
use Rattle.std.proofs.Math.Option.{some}
use Rattle.quantities.specs.declared.Table.{Table}
use Rattle.quantities.specs.Table.{rows_of}
use Rattle.bench.specs.declared.Bench.{Bench}
use Rattle.bench.specs.Refusal.{Outcome}
use Rattle.bench.specs.Step.{opened, release, tick}
use Rattle.bench.specs.History.{Call, releases, ticks, do_call, after, steps}
use Rattle.benchpages.specs.Calls.{state_on}

-- A run makes one call after another, each on the bench that the one before it left, refused ones included.
pub record HistoryRuns : Type 0 where
  pub a_release : (b : Bench) (place demand : ℕ) → do_call b (releases place demand) ≡ release b place demand
  pub a_tick : (b : Bench) → do_call b ticks ≡ tick b
  pub no_call : (b : Bench) → (after b [] ≡ b) × (steps b [] ≡ [])
  pub one_more : (b : Bench) (call : Call) (calls : List Call)
      → (after b (call ∷ calls) ≡ after (do_call b call).bench calls)
      × (steps b (call ∷ calls) ≡ do_call b call ∷ steps (do_call b call).bench calls)

-- whether a call was taken
abbrev pub was_taken : Outcome → Bool
was_taken (Ok done) = true
was_taken (Err why) = false

-- the demand accepted in a history for the row at a place: of each release there that is taken
abbrev pub demand_accepted : (place : ℕ) → Bench → List Call → ℕ
demand_accepted place b [] = 0
demand_accepted place b (releases other demand ∷ calls) =
    cond (eqb other place && was_taken (release b other demand).outcome) demand 0
    + demand_accepted place (release b other demand).bench calls
demand_accepted place b (ticks ∷ calls) = demand_accepted place (tick b).bench calls

-- the units served in the history's ticks: by as much as each tick lowers what remains
abbrev pub units_served : (place : ℕ) → Bench → List Call → ℕ
units_served place b [] = 0
units_served place b (releases other demand ∷ calls) = units_served place (release b other demand).bench calls
units_served place b (ticks ∷ calls) =
    (state_on b place).left.0 - (state_on (tick b).bench place).left.0
    + units_served place (tick b).bench calls

-- From an empty bench, for each row, demand accepted in the history equals units served in the history's
-- ticks plus what remains.
abbrev pub Books : Type 0
Books =
    (cores : ℕ) (table : Table) (start : Bench) → opened cores table ≡ some start
    → (calls : List Call) (place : ℕ) → 1 ≤ place → place ≤ length (rows_of table)
    → demand_accepted place start calls
    ≡ units_served place start calls + (state_on (after start calls) place).left.0
