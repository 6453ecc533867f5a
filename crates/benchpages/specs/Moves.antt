-- What a call that is taken does on the bench: a release starts a poll, a tick serves the highest rows.
use Rattle.std.specs.Prelude.{ℕ, zero, suc, ◌+◌, ◌-◌, ◌≤◌, ◌<◌, min, ◌≡◌, false, List, [], ◌∷◌, length, Some, Ok}
use Rattle.laws.specs.Each.{Each}
use Rattle.laws.specs.Member.{Member}
use Rattle.quantities.specs.declared.Instant.{Instant}
use Rattle.bench.specs.declared.RowState.{RowState}
use Rattle.bench.specs.declared.Bench.{Bench}
use Rattle.bench.specs.declared.Finish.{Finish}
use Rattle.bench.specs.Step.{Step, release, tick}
use Rattle.benchpages.specs.Calls.{rows_on, state_on, OnBoard, release_order, tick_order}

-- The board stays: its cores and its table, and a state for each row.
pub record SameBoard (b c : Bench) : Type 0 where
  pub cores : c.cores ≡ b.cores
  pub table : c.table ≡ b.table
  pub states : length c.states ≡ length b.states

-- Release (row place, demand): a poll starts at the present instant. Every other row stays as it was, and so
-- does the clock.
pub record PollStarted (b : Bench) (place demand : ℕ) (step : Step) : Type 0 where
  pub outcome : step.outcome ≡ Ok tt
  pub last : (state_on step.bench place).last ≡ Some b.now
  pub released : (state_on step.bench place).demand.0 ≡ demand
  pub remains : (state_on step.bench place).left.0 ≡ demand
  pub others : (other : ℕ) → 1 ≤ other → (other ≡ place → ⊥) → state_on step.bench other ≡ state_on b other
  pub clock : step.bench.now ≡ b.now
  pub board : SameBoard b step.bench
  pub none_end : step.finishes ≡ []

-- A bench of the code has a state for each of the 32 rows that a table can hold.
abbrev pub ReleaseStarts : Type 0
ReleaseStarts =
    (b : Bench) (place demand : ℕ) → length b.states ≡ 32
    → Each (λ one. one.fails ≡ false) (release_order b place demand)
    → PollStarted b place demand (release b place demand)

-- It leaves one step.
abbrev pub NoOtherRelease : Type 0
NoOtherRelease =
    (b : Bench) (place demand : ℕ) (one other : Step)
    → PollStarted b place demand one → PollStarted b place demand other → one ≡ other

-- how many rows down to a place have work remaining, and how much remains of them in all
abbrev pub working : Bench → (place : ℕ) → ℕ
working b zero = 0
working b (suc n) = working b n + min 1 (state_on b (suc n)).left.0

abbrev pub remaining : Bench → (place : ℕ) → ℕ
remaining b zero = 0
remaining b (suc n) = remaining b n + (state_on b (suc n)).left.0

-- The row at a place is served: it has work remaining, and fewer than M rows above it have.
pub record IsServed (b : Bench) (place : ℕ) : Type 0 where
  pub on_board : OnBoard b place
  pub has_work : 0 < (state_on b place).left.0
  pub among_highest : working b (place - 1) < b.cores

-- One unit: what remains falls by one, and the release and its demand stay.
pub record OneUnit (before after : RowState) : Type 0 where
  pub last : after.last ≡ before.last
  pub demand : after.demand.0 ≡ before.demand.0
  pub remains : after.left.0 + 1 ≡ before.left.0

-- A poll finishes in a tick: its row gets the last unit. (`-` stops at 0, here and on every page.) Its
-- response is the finish instant, which is the instant after growing, minus the release instant.
pub record Finishing (b : Bench) (poll : Finish) : Type 0 where
  pub served : IsServed b poll.place
  pub last_unit : (state_on b poll.place).left.0 ≡ 1
  pub release : Instant
  pub released : (state_on b poll.place).last ≡ Some release
  pub response : poll.response.0 ≡ b.now.0 + 1 - release.0

-- polls in rising place
abbrev pub RisingPlace : List Finish → Type 0
RisingPlace [] = Unit {0}
RisingPlace (poll ∷ polls) = Each (λ (lower : Finish). poll.place < lower.place) polls × RisingPlace polls

-- Tick: among rows with work remaining, the highest min(M, how many) get one unit each; the instant grows by
-- one. The answer lists the rows that finished, in rising place, and no other.
pub record Ticked (b : Bench) (step : Step) : Type 0 where
  pub outcome : step.outcome ≡ Ok tt
  pub clock : step.bench.now.0 ≡ b.now.0 + 1
  pub board : SameBoard b step.bench
  pub one_unit : (place : ℕ) → IsServed b place → OneUnit (state_on b place) (state_on step.bench place)
  pub no_unit : (place : ℕ) → 1 ≤ place → (IsServed b place → ⊥) → state_on step.bench place ≡ state_on b place
  pub how_many :
      remaining b (length (rows_on b))
      ≡ remaining step.bench (length (rows_on b)) + min b.cores (working b (length (rows_on b)))
  pub listed : (poll : Finish) → Finishing b poll → Member poll step.finishes
  pub no_other : Each (Finishing b) step.finishes
  pub rising : RisingPlace step.finishes

abbrev pub TickServes : (Bench → Step) → Type 0
TickServes run =
    (b : Bench) → length b.states ≡ 32 → Each (λ one. one.fails ≡ false) (tick_order b) → Ticked b (run b)

-- It leaves one step: whatever ticks so ticks as ours does.
abbrev pub NoOtherTick : Type 0
NoOtherTick =
    (run : Bench → Step) → TickServes run
    → (b : Bench) → length b.states ≡ 32 → Each (λ one. one.fails ≡ false) (tick_order b) → run b ≡ tick b
