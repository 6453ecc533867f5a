-- The clock of a bench counts the ticks among its calls, up to its end.
use Prim.Native.Nat.{ℕ, suc, ◌+◌, ◌≤◌, min}
use native.Mathlib.Decide.{dec_le}
use native.Mathlib.Omega.{arith}
use mathlib.Core.Path.{◌≡◌, refl}
use mathlib.Core.Bool.{false}
use mathlib.Core.List.{List, [], ◌∷◌}
use Rattle.bench.specs.declared.Bench.{Bench}
use Rattle.bench.specs.State.{last_instant, broken}
use Rattle.bench.specs.Step.{Step, started, release, moved, taken, tick}
use Rattle.bench.specs.History.{Call, releases, ticks, call_tests, after}
use Rattle.bench.proofs.State.{whole_unbroken}
use Rattle.bench.proofs.Permitted.{tick_permitted}
use Rattle.bench.proofs.Steps.{taken_step_lem, CallCase, refused, released, call_case}
use Rattle.bench.proofs.Kept.{Kept, kept_opened, kept_call, tick_at_end}
use Rattle.bench.proofs.Rules.{opened_holds}
use Rattle.benchpages.specs.Polls.{ticks_among, ClockCounts}

-- On a bench that is well kept a release leaves the clock, and a tick moves it on unless it is at its end.
pub release_clock : (b : Bench) (place demand : ℕ) → (release b place demand).bench.now ≡ b.now
unfolding started
release_clock b place demand = at (call_case b (releases place demand))
  where
    at : {step : Step} → CallCase b (releases place demand) step → step.bench.now ≡ b.now
    at (refused why q) = refl
    at (released q may) = refl

tick_clock : (b : Bench) → Kept b → (tick b).bench.now.0 ≡ min (suc b.now.0) last_instant
unfolding call_tests taken moved
tick_clock b kept = go (dec_le last_instant b.now.0)
  where
    whole : broken b ≡ false
    whole = whole_unbroken b kept.whole

    go : Dec (last_instant ≤ b.now.0) → (tick b).bench.now.0 ≡ min (suc b.now.0) last_instant
    go (yes late) =
        let end : b.now.0 ≡ last_instant = omega (arith, kept.whole.in_time) in
        rw (tick_at_end b kept end) (omega arith)
    go (no early) = rw (taken_step_lem b ticks (tick_permitted b whole (λ e. omega arith))) (omega arith)

pub clock_after : (calls : List Call) (b : Bench) → Kept b
    → (after b calls).now.0 ≡ min (b.now.0 + ticks_among calls) last_instant
unfolding after
clock_after [] b kept = omega (arith, kept.whole.in_time)
clock_after (releases place demand ∷ calls) b kept =
    rw (release_clock b place demand) at
    (clock_after calls (release b place demand).bench (kept_call b (releases place demand) kept))
clock_after (ticks ∷ calls) b kept =
    omega (arith, tick_clock b kept, clock_after calls (tick b).bench (kept_call b ticks kept))

pub clock_counts : ClockCounts
clock_counts cores table start is calls =
    let zero = (opened_holds cores table start is).starts in
    omega (arith, clock_after calls start (kept_opened cores table start is))
