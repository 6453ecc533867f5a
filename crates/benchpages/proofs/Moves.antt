-- A call that is taken does on the bench what specs/Moves.antt says.
use Prim.Native.Nat.{ℕ, zero, suc, ◌+◌, ◌-◌, ◌≤◌, ◌<◌, min}
use native.Mathlib.Omega.{arith}
use mathlib.Core.Path.{◌≡◌, refl, sym, ap, ◌∙◌}
use mathlib.Core.Bool.{false}
use mathlib.Core.List.{List, [], ◌∷◌, map}
use lib.ListN.{length, get_or, take}
use Rattle.std.specs.Prelude.{Option, Some}
use Rattle.laws.specs.Each.{Each}
use Rattle.laws.proofs.Lists.{each_map}
use Rattle.laws.proofs.Checks.{none_fails, none_found}
use Rattle.quantities.specs.declared.Instant.{Instant}
use Rattle.bench.specs.declared.Bench.{Bench}
use Rattle.bench.specs.declared.RowState.{RowState}
use Rattle.bench.specs.declared.Finish.{Finish}
use Rattle.bench.specs.State.{idle, work}
use Rattle.bench.specs.Serving.{workers, after_units, sum}
use Rattle.bench.specs.Step.{Step, fresh, tick}
use Rattle.bench.specs.History.{Call, releases, ticks}
use Rattle.bench.specs.Rules.{call_checks, PermittedCall, ReleaseRule, TicksByRule}
use Rattle.bench.specs.TickRule.{Gets, PollEnds, RisingPlaces}
use Rattle.bench.proofs.Rules.{tick_checks, releases_by_rule, ticks_by_rule}
use Rattle.bench.proofs.OneStep.{one_release, one_tick}
use Rattle.benchpages.specs.Calls.{rows_on, state_on, call_order}
use Rattle.benchpages.specs.Moves.{PollStarted, ReleaseStarts, NoOtherRelease, working, remaining}
use Rattle.benchpages.specs.Moves.{IsServed, OneUnit, Finishing, RisingPlace, TickServes, NoOtherTick}
use Rattle.benchpages.proofs.Calls.{first_of_call}

-- A call that fails no check of the page is permitted.
pub permitted : (b : Bench) (call : Call) → Each (λ one. one.fails ≡ false) (call_order b call) → PermittedCall b call
permitted b call passed =
    none_fails (call_checks b call) (sym (first_of_call b call) ∙ none_found (call_order b call) passed)

pub release_starts : ReleaseStarts
release_starts b place demand room passed =
    let rule = releases_by_rule b place demand room (permitted b (releases place demand) passed) in
    record {
      outcome = rule.outcome;
      last = ap (λ (s : RowState). s.last) rule.poll_starts;
      released = ap (λ (s : RowState). s.demand.0) rule.poll_starts;
      remains = ap (λ (s : RowState). s.left.0) rule.poll_starts;
      others = rule.others;
      clock = rule.clock;
      board = record { cores = rule.board.0; table = rule.board.1; states = rule.as_many };
      none_end = rule.none_end;
    }

-- what a poll's row holds, said of its parts
state_is : (state : RowState) (now demand : ℕ) → state.last ≡ Some (record { 0 = now }) → state.demand.0 ≡ demand
    → state.left.0 ≡ demand → state ≡ fresh now demand
state_is state now demand last released remains =
    ap (λ (l : Option Instant). record { last = l; demand = state.demand; left = state.left }) last
    ∙ ap (λ (n : ℕ). record { last = Some (record { 0 = now }); demand = record { 0 = n }; left = state.left }) released
    ∙ ap (λ (n : ℕ). record { last = Some (record { 0 = now }); demand = record { 0 = demand }; left = record { 0 = n } }) remains

started_by_rule : (b : Bench) (place demand : ℕ) (step : Step) → PollStarted b place demand step
    → ReleaseRule b place demand step
started_by_rule b place demand step starts =
    record {
      outcome = starts.outcome;
      poll_starts =
          state_is (state_on step.bench place) b.now.0 demand starts.last starts.released
          starts.remains;
      others = starts.others;
      as_many = starts.board.states;
      clock = starts.clock;
      board = (starts.board.cores, starts.board.table);
      none_end = starts.none_end;
    }

pub no_other_release : NoOtherRelease
no_other_release b place demand one other starts starts' =
    one_release b place demand one other (started_by_rule b place demand one starts)
    (started_by_rule b place demand other starts')

-- Counting down the places is counting down the states.
one_more : (states : List RowState) (n : ℕ)
    → workers (take (suc n) states) ≡ workers (take n states) + min 1 (work (get_or states n idle))
unfolding workers
one_more [] n = nothing n
  where
    nothing : (m : ℕ) → workers (take (suc m) []) ≡ workers (take m []) + min 1 (work (get_or [] m idle))
    nothing zero = refl
    nothing (suc m) = refl
one_more (state ∷ states) zero = omega arith
one_more (state ∷ states) (suc n) = omega (arith, one_more states n)

state_below : (b : Bench) (n : ℕ) → state_on b (suc n) ≡ get_or b.states n idle
state_below b n = ap (λ (i : ℕ). get_or b.states i idle) {x = suc n - 1} {y = n} (omega arith)

working_down : (b : Bench) (n : ℕ) → working b n ≡ workers (take n b.states)
unfolding workers
working_down b zero = refl
working_down b (suc n) = rw (one_more b.states n, working_down b n, state_below b n) refl

left_more : (states : List RowState) (n : ℕ)
    → sum (map work (take (suc n) states)) ≡ sum (map work (take n states)) + work (get_or states n idle)
left_more [] zero = refl
left_more [] (suc n) = refl
left_more (state ∷ states) zero = omega arith
left_more (state ∷ states) (suc n) = omega (arith, left_more states n)

remaining_down : (b : Bench) (n : ℕ) → remaining b n ≡ sum (map work (take n b.states))
remaining_down b zero = refl
remaining_down b (suc n) = rw (left_more b.states n, remaining_down b n, state_below b n) refl

-- A row is served exactly where the bench's own rule gives it a unit.
gets : (b : Bench) (place : ℕ) → IsServed b place → Gets b place
gets b place s =
    record {
      first = s.on_board.first;
      last = s.on_board.last;
      has_work = s.has_work;
      among_highest = rw (working_down b (place - 1)) at s.among_highest;
    }

is_served : (b : Bench) (place : ℕ) → Gets b place → IsServed b place
is_served b place g =
    record {
      on_board = record { first = g.first; last = g.last };
      has_work = g.has_work;
      among_highest = rw (working_down b (place - 1)) g.among_highest;
    }

one_less : (state after : RowState) → after ≡ after_units 1 state → 0 < work state → OneUnit state after
unfolding after_units
one_less state after e some_work =
    record {
      last = ap (λ (s : RowState). s.last) e;
      demand = ap (λ (s : RowState). s.demand.0) e;
      remains = let l = ap (λ (s : RowState). s.left.0) e in omega arith;
    }

-- A poll that ends is one that finishes.
ends : (b : Bench) (poll : Finish) → Finishing b poll → PollEnds b poll
ends b poll f =
    record {
      gets = gets b poll.place f.served;
      last_unit = f.last_unit;
      release = f.release;
      released = f.released;
      response = omega (arith, f.response);
    }

finishing : (b : Bench) (poll : Finish) → PollEnds b poll → Finishing b poll
finishing b poll e =
    record {
      served = is_served b poll.place e.gets;
      last_unit = e.last_unit;
      release = e.release;
      released = e.released;
      response = omega (arith, e.response);
    }

-- polls in rising place from a place on are each there or lower
from_there : (place : ℕ) (polls : List Finish) → RisingPlaces place polls
    → Each (λ (lower : Finish). place ≤ lower.place) polls
from_there place [] rising = tt
from_there place (poll ∷ polls) rising = (
  rising.0,
  each_map (λ (lower : Finish) (h : suc poll.place ≤ lower.place). omega (arith, rising.0)) polls (from_there (suc poll.place) polls rising.1),
)

rising_place : (place : ℕ) (polls : List Finish) → RisingPlaces place polls → RisingPlace polls
rising_place place [] rising = tt
rising_place place (poll ∷ polls) rising =
    (from_there (suc poll.place) polls rising.1, rising_place (suc poll.place) polls rising.1)

pub tick_serves : TickServes tick
tick_serves b room passed =
    let step = tick b in
    let rule = ticks_by_rule b room (permitted b ticks passed) in
    let n = length (rows_on b) in
    let same : rows_on step.bench ≡ rows_on b = rw rule.board.1 refl in
    let left = rw (ap length same) at rule.how_many in
    record {
      outcome = rule.outcome;
      clock = omega (arith, rule.clock);
      board = record { cores = rule.board.0; table = rule.board.1; states = rule.as_many };
      one_unit = λ place s.
          one_less (state_on b place) (state_on step.bench place) (rule.one_unit place (gets b place s)) s.has_work;
      no_unit = λ place low not. rule.no_unit place low (λ g. not (is_served b place g));
      how_many = rw (remaining_down b n, remaining_down step.bench n, working_down b n) left;
      listed = λ poll f. rule.listed poll (ends b poll f);
      no_other = each_map (finishing b) step.finishes rule.no_other;
      rising = rising_place 1 step.finishes rule.rising;
    }

-- The other way round: what ticks as the page says keeps the bench's own rule.
less_one : (state after : RowState) → OneUnit state after → after ≡ after_units 1 state
unfolding after_units
less_one state after u =
    let left : after.left.0 ≡ work state - 1 = omega (arith, u.remains) in
    rw (← u.last, ← u.demand, ← left) refl

rising_from : (place : ℕ) (polls : List Finish) → Each (λ (lower : Finish). place ≤ lower.place) polls
    → RisingPlace polls → RisingPlaces place polls
rising_from place [] low rising = tt
rising_from place (poll ∷ polls) low rising =
    (low.0, rising_from (suc poll.place) polls rising.0 rising.1)

pub keeps_the_rule : (run : Bench → Step) → TickServes run → TicksByRule run
keeps_the_rule run serves b room may =
    let step = run b in
    let t = serves b room (rw (tick_checks b) at may) in
    let n = length (rows_on b) in
    let same : rows_on step.bench ≡ rows_on b = rw t.board.table refl in
    let left = rw (remaining_down b n, remaining_down step.bench n, working_down b n) at t.how_many in
    record {
      outcome = t.outcome;
      clock = omega (arith, t.clock);
      board = (t.board.cores, t.board.table);
      one_unit = λ place g.
          less_one (state_on b place) (state_on step.bench place) (t.one_unit place (is_served b place g));
      no_unit = λ place low not. t.no_unit place low (λ s. not (gets b place s));
      as_many = t.board.states;
      how_many = rw (ap length same) left;
      listed = λ poll e. t.listed poll (finishing b poll e);
      no_other = each_map (ends b) step.finishes t.no_other;
      rising =
          rising_from 1 step.finishes
          (each_map (λ (poll : Finish) (f : Finishing b poll). f.served.on_board.first) step.finishes t.no_other)
          t.rising;
    }

pub no_other_tick : NoOtherTick
no_other_tick run serves b room passed =
    let may = permitted b ticks passed in
    one_tick b (run b) (tick b) (keeps_the_rule run serves b room may) (ticks_by_rule b room may)
