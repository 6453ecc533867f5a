-- Neither fake bench passes: a board of one core and one row, whose poll is released at instant 1, shows it.
use Prim.Native.Nat.{ℕ, zero, suc, ◌≤◌}
use native.Mathlib.Omega.{arith}
use mathlib.Core.Bool.{false}
use mathlib.Core.Path.{◌≡◌, refl, sym, ap, ◌∙◌}
use mathlib.Core.List.{List, [], ◌∷◌, ◌++◌, map, cons-ne-nil, head-eq_of_cons-eq}
use mathlib.Core.Option.{some}
use lib.ListN.{replicate}
use Rattle.std.specs.Prelude.{Some, Ok}
use Rattle.laws.specs.Each.{Each}
use Rattle.quantities.specs.Row.{row_of, no_row}
use Rattle.quantities.specs.Table.{rows_of}
use Rattle.laws.specs.Checks.{first_failing}
use Rattle.quantities.specs.Checks.{row_checks, rows_checks, list_checks, fault_from, list_fault}
use Rattle.quantities.specs.declared.Table.{Table}
use Rattle.windows.specs.Window.{plain, carry, limit, interference}
use Rattle.windows.specs.Choice.{most, passes}
use Rattle.windows.specs.Least.{first_of, least}
use Rattle.windows.specs.Bound.{window, bounds_below}
use Rattle.windows.specs.Answer.{verdict, judged_after, judged}
use Rattle.quantities.specs.declared.Instant.{Instant}
use Rattle.bench.specs.declared.RowState.{RowState}
use Rattle.bench.specs.declared.Bench.{Bench}
use Rattle.bench.specs.declared.Finish.{Finish}
use Rattle.bench.specs.State.{last_broken, row_broken, rows_broken, is_fault, broken}
use Rattle.bench.specs.Refusal.{too_soon, release_tests, tick_tests}
use Rattle.bench.specs.Serving.{unit, units, after_units, worked, ends, since, finish_of, finished}
use Rattle.bench.specs.Step.{Step, empty_bench, opened_after, opened, unless_refused, started, release, later}
use Rattle.bench.specs.Step.{served, moved, taken, tick}
use Rattle.bench.specs.History.{Call, releases, ticks, do_call, after}
use Rattle.bench.specs.Fakes.{idled, once, invented, inventing}
use Rattle.running.proofs.Parts.{last_step}
use Rattle.running.proofs.Running.{bounds_hold}
use Rattle.running.specs.Running.{EndsInTime}
use Rattle.benchpages.specs.Calls.{never_released, state_on, new_bench, tick_order}
use Rattle.benchpages.specs.Moves.{TickServes}
use Rattle.benchpages.specs.Polls.{bounds_for, bound_for}
use Rattle.benchpages.specs.LentPolls.{ReleasedWithin}
use Rattle.promises.specs.Fakes.{ServesOnce, InventsResponses, call_with, after_with, BoundsKeptWith, FakeTicksCaught}
use Rattle.benchpages.proofs.Moves.{no_other_tick}
use Rattle.benchpages.proofs.LentPolls.{less_ago}

-- one core and one row, whose bound is 1
abbrev board : Table
board = record { count = 1; rows = row_of 1 4 4 ∷ replicate 31 no_row }

bound_one : bounds_for 1 board ≡ 1 ∷ []
unfolding rows_of row_checks rows_checks list_checks first_failing fault_from list_fault plain carry limit interference
    most passes first_of least window bounds_below verdict judged_after judged
bound_one = refl

abbrev start : Bench
start = new_bench 1 board

is_opened : opened 1 board ≡ some start
unfolding rows_of row_checks rows_checks list_checks first_failing fault_from list_fault empty_bench opened_after opened
is_opened = refl

-- the bench after a tick and the release of one unit, at instant 1
abbrev just_released : RowState
just_released = record { last = Some (record { 0 = 1 }); demand = record { 0 = 1 }; left = record { 0 = 1 } }

abbrev b : Bench
b = later start (just_released ∷ replicate 31 never_released)

released_one : (release (tick start).bench 1 1).bench ≡ b
unfolding rows_of row_checks rows_checks list_checks first_failing fault_from list_fault last_broken row_broken
    rows_broken is_fault broken too_soon release_tests tick_tests unit units after_units worked ends since
    finish_of finished unless_refused started release served moved taken tick
released_one = refl

-- the next tick gives the row its unit, and lists it with a response of 1
may_tick : Each (λ one. one.fails ≡ false) (tick_order b)
unfolding rows_of row_checks rows_checks list_checks first_failing fault_from list_fault last_broken row_broken
    rows_broken is_fault broken
may_tick = (refl, (refl, tt))

abbrev poll : (response : ℕ) → Finish
poll response = record { place = 1; response = record { 0 = response } }

ticks_rightly : ((state_on (tick b).bench 1).left.0 ≡ 0)
    × ((tick b).finishes ≡ poll 1 ∷ [])
    × ((tick b).bench.now.0 ≡ 2)
unfolding rows_of row_checks rows_checks list_checks first_failing fault_from list_fault last_broken row_broken
    rows_broken is_fault broken tick_tests unit units after_units worked ends since finish_of finished unless_refused
    served moved taken tick
ticks_rightly = (refl, refl, refl)

-- One that idles later leaves the unit.
module _ (run : Bench → Step) (fake : ServesOnce run) where
  once_not_by_rule : TickServes run → ⊥
  once_not_by_rule serves =
      let same = no_other_tick run serves b refl may_tick in
      let idle = fake.later_ticks b (omega arith) in
      let z : ◌≡◌ {A = ℕ} 0 1 =
      sym ticks_rightly.0 ∙ ap (λ (step : Step). (state_on step.bench 1).left.0) (sym same ∙ idle) in
      omega arith

  -- at instant 2 the poll that was released at 1 has work left
  abbrev calls : List Call
  calls = ticks ∷ releases 1 1 ∷ ticks ∷ []

  abbrev idle : Bench
  idle = later b b.states

  once_idles : after_with run start calls ≡ idle
  once_idles =
      ap (λ (step : Step). (run (release step.bench 1 1).bench).bench) (fake.first_tick start refl)
      ∙ ap (λ (c : Bench). (run c).bench) released_one
      ∙ ap (λ (step : Step). step.bench) (fake.later_ticks b (omega arith))

  late : ReleasedWithin 1 idle 1 → ⊥
  late within =
      let at : ◌≡◌ {A = ℕ} 1 within.release.0 = instant_of_lem within.release within.last_release in
      omega (arith, within.less_ago)
    where
      instant_of_lem : (instant : Instant) → Some (record { 0 = 1 }) ≡ Some instant → 1 ≡ instant.0
      instant_of_lem instant e = cc

  once_breaks_bounds : BoundsKeptWith run → ⊥
  once_breaks_bounds keeps =
      let kept = rw bound_one at (keeps 1 board start is_opened calls ticks 1 (omega arith)) in
      late ((rw once_idles at (kept (omega arith)).over_in_time) (omega arith))

-- One that invents says 2.
two_said : (polls : List Finish) → map (λ (p : Finish). p.place) polls ≡ 1 ∷ []
    → Each (λ (p : Finish). p.response.0 ≡ 2) polls
    → Each (λ (p : Finish). p.place ≡ 1 → p.response.0 ≤ 1) polls → ⊥
two_said [] places twos kept = absurd (cons-ne-nil _ _ (sym places))
two_said (p ∷ polls) places twos kept = omega (arith, twos.0, kept.0 (head-eq_of_cons-eq places))

module _ (run : Bench → Step) (fake : InventsResponses run) where
  invented_places : map (λ (p : Finish). p.place) (run b).finishes ≡ 1 ∷ []
  invented_places = fake.places b ∙ ap (map (λ (p : Finish). p.place)) ticks_rightly.1

  invented_twos : Each (λ (p : Finish). p.response.0 ≡ 2) (run b).finishes
  invented_twos = rw ticks_rightly.2 at (fake.responses b)

  inventing_not_by_rule : TickServes run → ⊥
  inventing_not_by_rule serves =
      let same = no_other_tick run serves b refl may_tick in
      two_said (run b).finishes invented_places invented_twos (rw (same, ticks_rightly.1) ((λ e. omega arith), tt))

  released_with : after_with run start (ticks ∷ releases 1 1 ∷ []) ≡ b
  released_with = ap (λ (c : Bench). (release c 1 1).bench) (fake.bench start) ∙ released_one

  inventing_breaks_bounds : BoundsKeptWith run → ⊥
  inventing_breaks_bounds keeps =
      let kept = rw bound_one at (keeps 1 board start is_opened (ticks ∷ releases 1 1 ∷ []) ticks 1 (omega arith)) in
      two_said (run b).finishes invented_places invented_twos
      (rw released_with at (kept (omega arith)).ends_in_time)

-- There are such benches.
one_serves_once : ServesOnce once
unfolding once idled
one_serves_once =
    record {
      first_tick = λ b e. rw e refl;
      later_ticks = λ b h. idles b b.now.0 refl h;
    }
  where
    idles : (c : Bench) (n : ℕ) → c.now.0 ≡ n → 1 ≤ n
        → once c ≡ record { outcome = Ok tt; finishes = []; bench = later c c.states }
    idles c zero e h = absurd (omega arith)
    idles c (suc n) e h = rw e refl

invents_each : (instant : ℕ) (polls : List Finish)
    → Each (λ (p : Finish). p.response.0 ≡ instant) (map (invented instant) polls)
unfolding invented
invents_each instant [] = tt
invents_each instant (p ∷ polls) = (refl, invents_each instant polls)

same_places : (instant : ℕ) (polls : List Finish)
    → map (λ (p : Finish). p.place) (map (invented instant) polls) ≡ map (λ (p : Finish). p.place) polls
unfolding invented
same_places instant [] = refl
same_places instant (p ∷ polls) = ap (λ (places : List ℕ). p.place ∷ places) (same_places instant polls)

one_invents : InventsResponses inventing
unfolding inventing
one_invents =
    record {
      outcome = λ b. refl;
      bench = λ b. refl;
      places = λ b. same_places (tick b).bench.now.0 (tick b).finishes;
      responses = λ b. invents_each (tick b).bench.now.0 (tick b).finishes;
    }

-- Ours keeps the bounds.
after_ours : (b : Bench) (calls : List Call) → after_with tick b calls ≡ after b calls
unfolding after
after_ours b [] = refl
after_ours b (releases place demand ∷ calls) = after_ours (release b place demand).bench calls
after_ours b (ticks ∷ calls) = after_ours (tick b).bench calls

call_ours : (b : Bench) (call : Call) → call_with tick b call ≡ do_call b call
call_ours b (releases place demand) = refl
call_ours b ticks = refl

ours_keeps : BoundsKeptWith tick
ours_keeps cores table start is calls call place first within =
    let now = bounds_hold cores table start is calls place first within in
    let next = bounds_hold cores table start is (calls ++ call ∷ []) place first within in
    rw (after_ours start calls, call_ours (after start calls) call)
    (record {
      over_in_time = λ work. less_ago (after start calls) place _ _ refl (now.over_in_time work);
      ends_in_time = last_step (EndsInTime place (bound_for cores table place)) start calls call next.ends_in_time;
    })

pub fake_ticks_caught : FakeTicksCaught
fake_ticks_caught =
    record {
      serves_once = λ run fake. (once_not_by_rule run fake, once_breaks_bounds run fake);
      invents = λ run fake. (inventing_not_by_rule run fake, inventing_breaks_bounds run fake);
      one_serves_once = one_serves_once;
      one_invents = one_invents;
      ours_keeps = ours_keeps;
    }
