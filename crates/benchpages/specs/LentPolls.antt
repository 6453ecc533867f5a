-- Demand 3 said of the bench that a caller lends to one call after another, by what the caller hears.
use Rattle.std.specs.Prelude.{ℕ, suc, ◌+◌, ◌≤◌, ◌<◌, ◌≡◌, ◌↔◌, List, [], ◌∷◌, ◌++◌, length, take, Some, Ok}
use Rattle.std.proofs.Math.Option.{some}
use Rattle.laws.specs.Each.{Each}
use Rattle.quantities.specs.declared.Instant.{Instant}
use Rattle.quantities.specs.declared.Table.{Table}
use Rattle.quantities.specs.Paper.{paper}
use Rattle.bench.specs.declared.Bench.{Bench}
use Rattle.bench.specs.declared.Finish.{Finish}
use Rattle.bench.specs.Refusal.{Outcome, outcome_paper}
use Rattle.bench.specs.Ended.{finishes_of}
use Rattle.bench.specs.Step.{opened, release, tick}
use Rattle.bench.specs.History.{Call, releases, ticks, after}
use Rattle.lentbench.specs.declared.TickAnswer.{TickAnswer}
use Rattle.lentbench.specs.Lent.{LentTick, ticks_for}
use Rattle.lentbench.specs.Lent.{LentRelease, LentAnswer, to_release, to_tick, LentRun, RunsHistory}
use Rattle.benchpages.specs.Calls.{state_on}
use Rattle.benchpages.specs.Polls.{bounds_for, bound_for, ListsNone, ListsPoll}

-- What is heard of a call: the polls that a tick lists, which are the first `count` entries of its list,
abbrev pub polls_in : LentAnswer → List Finish
polls_in (to_release outcome) = []
polls_in (to_tick answer) = take answer.finishes.count answer.finishes.list

-- and the outcome.
abbrev pub outcome_in : LentAnswer → Outcome
outcome_in (to_release outcome) = outcome
outcome_in (to_tick answer) = answer.outcome

-- how many ticks are heard
abbrev pub ticks_heard : List LentAnswer → ℕ
ticks_heard [] = 0
ticks_heard (to_release outcome ∷ heard) = ticks_heard heard
ticks_heard (to_tick answer ∷ heard) = suc (ticks_heard heard)

-- A release or a tick of a lent bench leaves it as the step leaves it, and answers what the step answers: its
-- outcome, and of a tick the list of its polls. `run` is as many ticks as its length says.
pub record LentCallsAnswer : Type 0 where
  pub of_release : (b : Bench) (place demand : ℕ) (left : Bench) (outcome : Outcome)
      → LentRelease (release b place demand) left outcome
      ↔ ((left ≡ (release b place demand).bench) × (outcome ≡ (release b place demand).outcome))
  pub of_tick : (b moved : Bench) (answer : TickAnswer)
      → LentTick (tick b) moved answer
      ↔ ((moved ≡ (tick b).bench)
      × (answer ≡ record { outcome = (tick b).outcome; finishes = finishes_of (tick b).finishes }))
  pub no_ticks : ticks_for 0 ≡ []
  pub one_tick_more : (n : ℕ) → ticks_for (suc n) ≡ ticks ∷ ticks_for n

-- Any calls can be made on a lent bench, one after the other, and such a loop is the run of their history.
abbrev pub LentRunsOn : Type 0
LentRunsOn =
    (b : Bench) (calls : List Call) → (end : Bench) × (heard : List LentAnswer) × LentRun b calls end heard

-- what is heard of one call after another: each is answered on the bench that the one before it left
abbrev pub answers_heard : Bench → List Call → List LentAnswer
answers_heard b [] = []
answers_heard b (releases place demand ∷ calls) =
    to_release (release b place demand).outcome ∷ answers_heard (release b place demand).bench calls
answers_heard b (ticks ∷ calls) =
    to_tick (record { outcome = (tick b).outcome; finishes = finishes_of (tick b).finishes })
    ∷ answers_heard (tick b).bench calls

abbrev pub LentRunHears : Type 0
LentRunHears =
    (b : Bench) (calls : List Call) (end : Bench) (heard : List LentAnswer)
    → LentRun b calls end heard ↔ ((end ≡ after b calls) × (heard ≡ answers_heard b calls))

abbrev pub LentRunsHistory : Type 0
LentRunsHistory =
    (b : Bench) (calls : List Call) (end : Bench) (heard : List LentAnswer)
    → LentRun b calls end heard ↔ RunsHistory b calls end heard

-- The row at a place was released less than `bound` ticks ago.
pub record ReleasedWithin (bound : ℕ) (b : Bench) (place : ℕ) : Type 0 where
  pub release : Instant
  pub last_release : (state_on b place).last ≡ Some release
  pub less_ago : b.now.0 < release.0 + bound

-- A bound holds for the row at a place in a caller's loop: on the bench at its end, and in each tick heard;
-- and no answer is 21 for the row, that its last poll is unfinished.
pub record LentHolds (end : Bench) (heard : List LentAnswer) (place bound : ℕ) : Type 0 where
  pub over_in_time : 0 < (state_on end place).left.0 → ReleasedWithin bound end place
  pub ends_in_time :
      Each
      (λ (answer : LentAnswer).
      Each (λ (poll : Finish). poll.place ≡ place → poll.response.0 ≤ bound) (polls_in answer))
      heard
  pub never_21 : Each (λ (answer : LentAnswer). outcome_paper (outcome_in answer) ≡ paper 21 place → ⊥) heard

-- Demand 3 for the caller's loop.
abbrev pub LentBoundsHold : Type 0
LentBoundsHold =
    (cores : ℕ) (table : Table) (start : Bench) → opened cores table ≡ some start
    → (calls : List Call) (end : Bench) (heard : List LentAnswer) → LentRun start calls end heard
    → (place : ℕ) → 1 ≤ place → place ≤ length (bounds_for cores table)
    → LentHolds end heard place (bound_for cores table place)

-- Among the answers heard after a release, the first tick that lists the row at a place has its response: the
-- ticks heard up to this one, at most the bound.
pub record HeardWithin (heard : List LentAnswer) (place bound : ℕ) : Type 0 where
  pub before : List LentAnswer
  pub answer : TickAnswer
  pub later : List LentAnswer
  pub a_tick : heard ≡ before ++ (to_tick answer ∷ later)
  pub none_before : Each (λ (one : LentAnswer). ListsNone place (polls_in one)) before
  pub response : ℕ
  pub lists : ListsPoll place response (polls_in (to_tick answer))
  pub ticks_passed : response ≡ suc (ticks_heard before)
  pub in_time : response ≤ bound

-- Each poll ends in the caller's loop: a bench is opened, lent to any calls, then to a release of a row that
-- has a bound, which is taken, then to any calls. If as many ticks as the bound are heard, and the clock does
-- not end before, one of them lists the row as finished, within the bound.
abbrev pub LentPollsEnd : Type 0
LentPollsEnd =
    (cores : ℕ) (table : Table) (start : Bench) → opened cores table ≡ some start
    → (calls : List Call) (b : Bench) (heard : List LentAnswer) → LentRun start calls b heard
    → (place demand : ℕ) → 1 ≤ place → place ≤ length (bounds_for cores table)
    → (c : Bench) → LentRelease (release b place demand) c (Ok tt)
    → (more : List Call) (end : Bench) (then : List LentAnswer) → LentRun c more end then
    → let bound = bound_for cores table place in
    bound ≤ ticks_heard then → b.now.0 + bound ≤ 1000000000
    → HeardWithin then place bound
