-- The tick rule of document 01, said of any step: who gets a unit, what stays, and what is listed.
use Rattle.std.specs.Prelude.{ℕ, suc, ◌+◌, ◌-◌, ◌≤◌, ◌<◌, min, ◌≡◌, List, [], ◌∷◌, map, length, take, Some, Ok}
use Rattle.laws.specs.Each.{Each}
use Rattle.laws.specs.Member.{Member}
use Rattle.quantities.specs.declared.Instant.{Instant}
use Rattle.bench.specs.declared.RowState.{RowState}
use Rattle.bench.specs.declared.Bench.{Bench}
use Rattle.bench.specs.declared.Finish.{Finish}
use Rattle.bench.specs.State.{work, rows, state_at}
use Rattle.bench.specs.Serving.{sum, workers, after_units}
use Rattle.bench.specs.Step.{Step}

-- how many rows above a place have work remaining
abbrev pub workers_above : Bench → ℕ → ℕ
workers_above b place = workers (take (place - 1) b.states)

-- The row at a place gets a unit: it has work remaining, and fewer than M rows above it have.
pub record Gets (b : Bench) (place : ℕ) : Type 0 where
  pub first : 1 ≤ place
  pub last : place ≤ length (rows b)
  pub has_work : 0 < work (state_at b place)
  pub among_highest : workers_above b place < b.cores

-- A poll ends in a tick: its row gets the last unit of its work. Its response is the finish instant, which is
-- the instant after growing, minus the release instant.
pub record PollEnds (b : Bench) (poll : Finish) : Type 0 where
  pub gets : Gets b poll.place
  pub last_unit : work (state_at b poll.place) ≡ 1
  pub release : Instant
  pub released : (state_at b poll.place).last ≡ Some release
  pub response : poll.response.0 ≡ suc b.now.0 - release.0

-- polls in rising place, from a place on
abbrev pub RisingPlaces : ℕ → List Finish → Type 0
RisingPlaces place [] = Unit {0}
RisingPlaces place (poll ∷ polls) = (place ≤ poll.place) × RisingPlaces (suc poll.place) polls

-- the states of the table's rows, and the work that remains in all
abbrev pub row_states : Bench → List RowState
row_states b = take (length (rows b)) b.states

abbrev pub remaining : List RowState → ℕ
remaining states = sum (map work states)

-- The rule: among rows with work remaining, the highest min(M, how many) get one unit each; the instant grows
-- by one; the answer lists the polls that ended and no other, in rising place. All else stays.
pub record TickRule (b : Bench) (step : Step) : Type 0 where
  pub outcome : step.outcome ≡ Ok tt
  pub clock : step.bench.now.0 ≡ suc b.now.0
  pub board : (step.bench.cores ≡ b.cores) × (step.bench.table ≡ b.table)
  pub one_unit : (place : ℕ) → Gets b place → state_at step.bench place ≡ after_units 1 (state_at b place)
  pub no_unit : (place : ℕ) → 1 ≤ place → (Gets b place → ⊥) → state_at step.bench place ≡ state_at b place
  pub as_many : length step.bench.states ≡ length b.states
  pub how_many :
      remaining (row_states b) ≡ remaining (row_states step.bench) + min b.cores (workers (row_states b))
  pub listed : (poll : Finish) → PollEnds b poll → Member poll step.finishes
  pub no_other : Each (PollEnds b) step.finishes
  pub rising : RisingPlaces 1 step.finishes
