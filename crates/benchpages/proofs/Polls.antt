-- Each poll that starts on a running board is listed as finished, within its row's bound.
use Prim.Native.Nat.{ℕ, ◌+◌, ◌≤◌, ◌<◌}
use native.Mathlib.Omega.{arith}
use mathlib.Core.Path.{◌≡◌, refl, ap}
use mathlib.Core.Logic.{◌⊎◌, inl, inr, ⊎_elim}
use mathlib.Core.List.{List, [], ◌∷◌, ◌++◌}
use mathlib.Core.Option.{some}
use lib.ListN.{length}
use Rattle.std.specs.Prelude.{Option, Some}
use Rattle.laws.specs.Each.{Each}
use Rattle.laws.proofs.Lists.{each_member}
use Rattle.quantities.specs.declared.Instant.{Instant}
use Rattle.quantities.specs.declared.Table.{Table}
use Rattle.bench.specs.declared.Bench.{Bench}
use Rattle.bench.specs.State.{state_at}
use Rattle.bench.specs.Step.{Step, opened, release, tick}
use Rattle.bench.specs.History.{Call, releases, ticks, do_call, after, steps}
use Rattle.bench.proofs.Kept.{Kept, kept_opened, kept_call, kept_after}
use Rattle.running.specs.Running.{bounds_of, bound_at, LessAgo, OverInTime, EndsInTime}
use Rattle.running.proofs.Running.{bounds_hold}
use Rattle.benchpages.specs.Polls.{ListsNone, EndsWithin, Unfinished}
use Rattle.benchpages.specs.Polls.{PollsEnd, PollsEndInTicks, PollsEndOrWait}
use Rattle.benchpages.proofs.Clock.{release_clock, clock_after}
use Rattle.benchpages.proofs.Waiting.{Waits, EndsNow, WaitsOn, release_waits, tick_goes}
use Rattle.benchpages.proofs.Waiting.{lists_moves, starts}

-- Demand 3 as it stands for a bench and every history from it.
record InTime (place bound : ℕ) (b : Bench) : Type 0 where
  over : (calls : List Call) → OverInTime place bound (after b calls)
  ends : (calls : List Call) → Each (EndsInTime place bound) (steps b calls)

in_time_call : (place bound : ℕ) (b : Bench) (call : Call) → InTime place bound b
    → InTime place bound (do_call b call).bench
unfolding after steps
in_time_call place bound b call in_time =
    record { over = λ calls. in_time.over (call ∷ calls); ends = λ calls. (in_time.ends (call ∷ calls)).1 }

in_time_after : (place bound : ℕ) (calls : List Call) (b : Bench) → InTime place bound b
    → InTime place bound (after b calls)
unfolding after
in_time_after place bound [] b in_time = in_time
in_time_after place bound (call ∷ calls) b in_time =
    in_time_after place bound calls (do_call b call).bench (in_time_call place bound b call in_time)

opened_in_time : (cores : ℕ) (table : Table) (start : Bench) → opened cores table ≡ some start
    → (place : ℕ) → 1 ≤ place → place ≤ length (bounds_of cores table)
    → InTime place (bound_at (bounds_of cores table) place) start
opened_in_time cores table start is place first within =
    record {
      over = λ calls. (bounds_hold cores table start is calls place first within).over_in_time;
      ends = λ calls. (bounds_hold cores table start is calls place first within).ends_in_time;
    }

-- a release that came less than the bound ago
less_ago : (now bound released : ℕ) (last : Option Instant) → last ≡ Some (record { 0 = released })
    → LessAgo now bound last → now < released + bound
less_ago now bound released last is ago = rw is at ago

-- The poll ends in a history; b is a bench on the way, at whatever instant after the release.
record EndsIn (b : Bench) (more : List Call) (place released bound : ℕ) : Type 0 where
  before : List Call
  later : List Call
  a_tick : more ≡ before ++ (ticks ∷ later)
  none_before : Each (λ (step : Step). ListsNone place step.finishes) (steps b before)
  ends : EndsNow place released (tick (after b before))
  in_time : ends.response ≤ bound

-- Where the first call leaves the poll waiting, it ends or waits as it does in the calls that follow.
later_ends : (b : Bench) (call : Call) (more : List Call) (place released bound : ℕ)
    → WaitsOn place released (do_call b call)
    → EndsIn (do_call b call).bench more place released bound → EndsIn b (call ∷ more) place released bound
unfolding after steps
later_ends b call more place released bound on rest =
    record {
      before = call ∷ rest.before;
      later = rest.later;
      a_tick = ap (λ (calls : List Call). call ∷ calls) rest.a_tick;
      none_before = (on.none_listed, rest.none_before);
      ends = rest.ends;
      in_time = rest.in_time;
    }

later_waits : (b : Bench) (call : Call) (more : List Call) (place released bound : ℕ)
    → WaitsOn place released (do_call b call)
    → Unfinished (do_call b call).bench more place released bound
    → Unfinished b (call ∷ more) place released bound
unfolding after steps
later_waits b call more place released bound on still =
    record {
      none_listed = (on.none_listed, still.none_listed);
      last_release = still.last_release;
      work_left = still.work_left;
      in_time = still.in_time;
    }

module _ (place released bound : ℕ) (first : 1 ≤ place) where
  -- the tick that comes now
  first_ends : (b : Bench) (more : List Call) → InTime place bound b → EndsNow place released (tick b)
      → EndsIn b (ticks ∷ more) place released bound
  unfolding after steps
  first_ends b more in_time now =
      record {
        before = [];
        later = more;
        a_tick = refl;
        none_before = tt;
        ends = now;
        in_time =
            each_member _ _ (tick b).finishes (in_time.ends (ticks ∷ [])).0 now.lists.listed refl;
      }

  -- The poll ends in a history or waits to its end.
  end_or_wait : (more : List Call) (b : Bench) → Kept b → InTime place bound b → Waits place released b
      → EndsIn b more place released bound ⊎ Unfinished b more place released bound
  unfolding after steps
  end_or_wait [] b kept in_time waits =
      inr
      (record {
        none_listed = tt;
        last_release = waits.last_release;
        work_left = waits.busy;
        in_time =
            less_ago b.now.0 bound released (state_at b place).last waits.last_release
            (in_time.over [] waits.busy);
      })
  end_or_wait (releases other demand ∷ more) b kept in_time waits =
      let call = releases other demand in
      let on = release_waits place released first b kept waits other demand in
      ⊎_elim (λ ends. inl (later_ends b call more place released bound on ends))
      (λ still. inr (later_waits b call more place released bound on still))
      (end_or_wait more (release b other demand).bench (kept_call b call kept)
      (in_time_call place bound b call in_time) on.waits)
  end_or_wait (ticks ∷ more) b kept in_time waits =
      go (tick_goes place released first b kept waits)
      (end_or_wait more (tick b).bench (kept_call b ticks kept) (in_time_call place bound b ticks in_time))
    where
      go : EndsNow place released (tick b) ⊎ WaitsOn place released (tick b)
          → (Waits place released (tick b).bench
          → EndsIn (tick b).bench more place released bound
          ⊎ Unfinished (tick b).bench more place released bound)
          → EndsIn b (ticks ∷ more) place released bound ⊎ Unfinished b (ticks ∷ more) place released bound
      go (inl now) rest = inl (first_ends b more in_time now)
      go (inr on) rest =
          ⊎_elim (λ ends. inl (later_ends b ticks more place released bound on ends))
          (λ still. inr (later_waits b ticks more place released bound on still))
          (rest on.waits)

-- The tick that lists the poll is taken, so those before it are too, and the clock has counted them all.
ends_within : (b : Bench) (more : List Call) (place bound : ℕ) → Kept b
    → EndsIn b more place b.now.0 bound → EndsWithin b more place b.now.0 bound
ends_within b more place bound kept found =
    let last = after b found.before in
    let clock = clock_after found.before b kept in
    let moves = lists_moves last place b.now.0 found.ends in
    let end = (kept_call last ticks (kept_after found.before b kept)).whole.in_time in
    let ends = found.ends in
    record {
      before = found.before;
      later = found.later;
      a_tick = found.a_tick;
      none_before = found.none_before;
      response = found.ends.response;
      lists = found.ends.lists;
      finish_minus_release = found.ends.finish_minus_release;
      ticks_passed = omega (arith, clock, moves, end, ends.finish_minus_release);
      in_time = found.in_time;
    }

-- Demand 3 of polls.
pub polls_end_or_wait : PollsEndOrWait
polls_end_or_wait cores table start calls place demand poll more =
    let b = after start calls in
    let call = releases place demand in
    let c = (release b place demand).bench in
    let bound = bound_at (bounds_of cores table) place in
    let kept = kept_after calls start (kept_opened cores table start poll.is_opened) in
    let at_start = opened_in_time cores table start poll.is_opened place poll.first poll.has_bound in
    let same : c.now.0 ≡ b.now.0 = ap (λ (i : Instant). i.0) (release_clock b place demand) in
    ⊎_elim (λ ends. inl (rw same at (ends_within c more place bound (kept_call b call kept) (rw same ends))))
    inr
    (end_or_wait place b.now.0 bound poll.first more c (kept_call b call kept)
    (in_time_call place bound b call (in_time_after place bound calls start at_start))
    (starts b place demand kept poll.taken))

pub polls_end : PollsEnd
polls_end cores table start calls place demand poll more reached =
    ⊎_elim (λ ends. ends) (λ still. absurd (omega (arith, still.in_time)))
    (polls_end_or_wait cores table start calls place demand poll more)

pub polls_end_in_ticks : PollsEndInTicks
polls_end_in_ticks cores table start calls place demand poll more enough early =
    let b = after start calls in
    let c = (release b place demand).bench in
    let kept = kept_after calls start (kept_opened cores table start poll.is_opened) in
    let same : c.now.0 ≡ b.now.0 = ap (λ (i : Instant). i.0) (release_clock b place demand) in
    let clock = clock_after more c (kept_call b (releases place demand) kept) in
    polls_end cores table start calls place demand poll more (omega arith)
