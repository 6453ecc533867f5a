-- Demand 3 said of polls: a poll that starts on a running board is listed as finished, within its bound.
use Rattle.std.specs.Prelude.{ℕ, suc, ◌+◌, ◌-◌, ◌≤◌, ◌<◌, min, ◌≡◌, ◌⊎◌, List, [], ◌∷◌, ◌++◌, length, get_or, Some, Ok}
use Rattle.std.proofs.Math.Option.{some}
use Rattle.laws.specs.Each.{Each}
use Rattle.laws.specs.Member.{Member}
use Rattle.quantities.specs.declared.Table.{Table}
use Rattle.quantities.specs.Table.{rows_of}
use Rattle.windows.specs.Answer.{judged}
use Rattle.bench.specs.declared.Bench.{Bench}
use Rattle.bench.specs.declared.Finish.{Finish}
use Rattle.bench.specs.Step.{Step, opened, release, tick}
use Rattle.bench.specs.History.{Call, releases, ticks, after, steps}
use Rattle.benchpages.specs.Calls.{state_on}

-- the bounds that the analysis gives the rows of a table, and the bound of the row at a place, counted from 1
abbrev pub bounds_for : (cores : ℕ) → Table → List ℕ
bounds_for cores table = (judged cores (rows_of table)).bounds

abbrev pub bound_for : (cores : ℕ) → Table → (place : ℕ) → ℕ
bound_for cores table place = get_or (bounds_for cores table) (place - 1) 0

-- how many of some calls are ticks
abbrev pub ticks_among : List Call → ℕ
ticks_among [] = 0
ticks_among (releases place demand ∷ calls) = ticks_among calls
ticks_among (ticks ∷ calls) = suc (ticks_among calls)

-- The clock counts the ticks, whatever calls stand among them, up to instant 1,000,000,000.
abbrev pub ClockCounts : Type 0
ClockCounts =
    (cores : ℕ) (table : Table) (start : Bench) → opened cores table ≡ some start
    → (calls : List Call) → (after start calls).now.0 ≡ min (ticks_among calls) 1000000000

-- The ended polls that a tick lists: the row at a place is not among them,
abbrev pub ListsNone : (place : ℕ) → List Finish → Type 0
ListsNone place polls = Each (λ (poll : Finish). poll.place ≡ place → ⊥) polls

-- or it is, with this response and with no other.
pub record ListsPoll (place response : ℕ) (polls : List Finish) : Type 0 where
  pub listed : Member (record { place = place; response = record { 0 = response } }) polls
  pub no_other : Each (λ (poll : Finish). poll.place ≡ place → poll.response.0 ≡ response) polls

-- A poll of the row at a place was released at an instant; b is the bench after that release, and `more` are
-- the calls that follow. A tick among them lists the row as finished, the first to do so. The response is
-- finish instant (the instant after growing) minus release instant: the ticks up to this one, no more than
-- the bound.
pub record EndsWithin (b : Bench) (more : List Call) (place released bound : ℕ) : Type 0 where
  pub before : List Call
  pub later : List Call
  pub a_tick : more ≡ before ++ (ticks ∷ later)
  pub none_before : Each (λ (step : Step). ListsNone place step.finishes) (steps b before)
  pub response : ℕ
  pub lists : ListsPoll place response (tick (after b before)).finishes
  pub finish_minus_release : released + response ≡ (tick (after b before)).bench.now.0
  pub ticks_passed : response ≡ suc (ticks_among before)
  pub in_time : response ≤ bound

-- No call that follows lists the row: its poll is unfinished, and was released less than `bound` ticks ago.
pub record Unfinished (b : Bench) (more : List Call) (place released bound : ℕ) : Type 0 where
  pub none_listed : Each (λ (step : Step). ListsNone place step.finishes) (steps b more)
  pub last_release : (state_on (after b more) place).last ≡ Some (record { 0 = released })
  pub work_left : 0 < (state_on (after b more) place).left.0
  pub in_time : (after b more).now.0 < released + bound

-- A poll starts: a bench was opened for a table, any calls were made on it, and now the release of a demand
-- at a place that has a bound is taken.
pub record PollStarts (cores : ℕ) (table : Table) (start : Bench) (calls : List Call) (place demand : ℕ)
    : Type 0 where
  pub is_opened : opened cores table ≡ some start
  pub first : 1 ≤ place
  pub has_bound : place ≤ length (bounds_for cores table)
  pub taken : (release (after start calls) place demand).outcome ≡ Ok tt

-- Each poll ends. Whatever calls follow its release: once the clock is at release instant plus bound, a tick
-- among them has listed its row as finished, within the bound.
abbrev pub PollsEnd : Type 0
PollsEnd =
    (cores : ℕ) (table : Table) (start : Bench) (calls : List Call) (place demand : ℕ)
    → PollStarts cores table start calls place demand
    → let b = (release (after start calls) place demand).bench in
    let released = (after start calls).now.0 in
    let bound = bound_for cores table place in
    (more : List Call) → released + bound ≤ (after b more).now.0
    → EndsWithin b more place released bound

-- In ticks: after as many as the bound, with any other calls among them, unless the clock ends before.
abbrev pub PollsEndInTicks : Type 0
PollsEndInTicks =
    (cores : ℕ) (table : Table) (start : Bench) (calls : List Call) (place demand : ℕ)
    → PollStarts cores table start calls place demand
    → let b = (release (after start calls) place demand).bench in
    let released = (after start calls).now.0 in
    let bound = bound_for cores table place in
    (more : List Call) → bound ≤ ticks_among more → released + bound ≤ 1000000000
    → EndsWithin b more place released bound

-- And wherever the clock is: the poll has so ended, or no tick has listed its row and work remains.
abbrev pub PollsEndOrWait : Type 0
PollsEndOrWait =
    (cores : ℕ) (table : Table) (start : Bench) (calls : List Call) (place demand : ℕ)
    → PollStarts cores table start calls place demand
    → let b = (release (after start calls) place demand).bench in
    let released = (after start calls).now.0 in
    let bound = bound_for cores table place in
    (more : List Call) → EndsWithin b more place released bound ⊎ Unfinished b more place released bound
