-- A call is taken where its tests permit it; else it is refused and nothing changes.
use Prim.Native.Nat.{ℕ}
use mathlib.Core.Path.{◌≡◌, refl, ap}
use mathlib.Core.List.{[]}
use mathlib.Core.Option.{Option, none, some}
use Rattle.std.specs.Prelude.{Ok, Err}
use Rattle.laws.specs.Checks.{first_failing}
use Rattle.laws.proofs.Tests.{not_one}
use Rattle.bench.specs.declared.Bench.{Bench}
use Rattle.bench.specs.declared.Finishes.{Finishes}
use Rattle.bench.specs.declared.Released.{Released}
use Rattle.bench.specs.Ended.{finishes_of}
use Rattle.bench.specs.declared.Refusal.{Refusal}
use Rattle.bench.specs.Refusal.{release_tests, tick_tests}
use Rattle.bench.specs.Step.{Step, unless_refused, started, release, moved, taken, tick, released_of, ticked_of}
use Rattle.bench.specs.History.{Call, releases, ticks, call_tests, do_call}
use Rattle.bench.proofs.Permitted.{MayRelease, may_release, MayTick, may_tick}

abbrev pub refused_step : Refusal → Bench → Step
refused_step why b = record { outcome = Err why; finishes = []; bench = b }

abbrev pub released_step : Bench → (place demand : ℕ) → Step
released_step b place demand = record { outcome = Ok tt; finishes = []; bench = started b place demand }

-- a call that is taken
abbrev pub taken_step : Bench → Call → Step
taken_step b (releases place demand) = released_step b place demand
taken_step b ticks = taken b

-- What a call comes to: it is refused and nothing changes, or a poll starts, or the rows are served.
pub data CallCase (b : Bench) : Call → Step → Type 0 where
  refused : {call : Call} (why : Refusal) → first_failing (call_tests b call) ≡ some why
      → CallCase b call (refused_step why b)
  released : {place demand : ℕ} → first_failing (call_tests b (releases place demand)) ≡ none
      → MayRelease b place demand → CallCase b (releases place demand) (released_step b place demand)
  ticked : first_failing (call_tests b ticks) ≡ none → MayTick b → CallCase b ticks (taken b)

pub call_case : (b : Bench) (call : Call) → CallCase b call (do_call b call)
unfolding call_tests release tick unless_refused
call_case b (releases place demand) = at (first_failing (release_tests b place demand)) refl
  where
    at : (found : Option Refusal) → first_failing (release_tests b place demand) ≡ found
        → CallCase b (releases place demand) (unless_refused found (released_step b place demand) b)
    at none q = released q (may_release b place demand q)
    at (some why) q = refused why q
call_case b ticks = at (first_failing (tick_tests b)) refl
  where
    at : (found : Option Refusal) → first_failing (tick_tests b) ≡ found → CallCase b ticks (unless_refused found (taken b) b)
    at none q = ticked q (may_tick b q)
    at (some why) q = refused why q

-- what a call does, where its tests say that it is taken, or refused
pub refused_step_lem : (b : Bench) (call : Call) (why : Refusal) → first_failing (call_tests b call) ≡ some why
    → do_call b call ≡ refused_step why b
unfolding call_tests release tick unless_refused
refused_step_lem b (releases place demand) why e = rw (e, unless_refused)
refused_step_lem b ticks why e = rw (e, unless_refused)

pub taken_step_lem : (b : Bench) (call : Call) → first_failing (call_tests b call) ≡ none → do_call b call ≡ taken_step b call
unfolding call_tests release tick unless_refused
taken_step_lem b (releases place demand) e = rw (e, unless_refused)
taken_step_lem b ticks e = rw (e, unless_refused)

-- A refused call changes nothing on the bench.
pub refused_same : (b : Bench) (call : Call) (why : Refusal) → (do_call b call).outcome ≡ Err why
    → do_call b call ≡ refused_step why b
unfolding taken
refused_same b call why = at (call_case b call)
  where
    at : {one : Call} {step : Step} → CallCase b one step → step.outcome ≡ Err why → step ≡ refused_step why b
    at (refused other q) e = let same : other ≡ why = cc in ap (λ w. refused_step w b) same
    at (released q may) e = absurd (not_one cc)
    at (ticked q may) e = absurd (not_one cc)

-- No call changes the board.
pub same_board : (b : Bench) (call : Call)
    → ((do_call b call).bench.cores ≡ b.cores) × ((do_call b call).bench.table ≡ b.table)
unfolding taken moved started
same_board b call = at (call_case b call)
  where
    at : {one : Call} {step : Step} → CallCase b one step
        → (step.bench.cores ≡ b.cores) × (step.bench.table ≡ b.table)
    at (refused why q) = (refl, refl)
    at (released q may) = (refl, refl)
    at (ticked q may) = (refl, refl)

-- A release ends no poll, so that its answer as one of a call lists none.
pub release_no_polls : (b : Bench) (place demand : ℕ) → (release b place demand).finishes ≡ []
release_no_polls b place demand = at (call_case b (releases place demand))
  where
    at : {step : Step} → CallCase b (releases place demand) step → step.finishes ≡ []
    at (refused why q) = refl
    at (released q may) = refl

pub released_answer : (b : Bench) (place demand : ℕ) (r : Released) → r ≡ released_of (release b place demand) → (f : Finishes) → f ≡ finishes_of []
    → record { outcome = r.outcome; finishes = f; bench = r.bench } ≡ ticked_of (release b place demand)
unfolding released_of ticked_of
released_answer b place demand r er f ef = rw (er, ef, release_no_polls b place demand)
