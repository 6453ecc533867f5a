-- Demand 3: what the invariant says of one bench and one call, and the theorem over every history.
use Prim.Native.Nat.{ℕ, suc, ◌+◌, ◌-◌, ◌≤◌, ◌<◌}
use mathlib.Core.Path.{◌≡◌, refl, sym, ap, ◌∙◌}
use mathlib.Core.Bool.{true}
use mathlib.Core.List.{List, []}
use mathlib.Core.Option.{some}
use native.Mathlib.Omega.{arith}
use lib.ListN.{length, take}
use Rattle.std.specs.Prelude.{Option, None, Some}
use Rattle.laws.specs.Checks.{first_failing}
use Rattle.laws.proofs.Lists.{each_map}
use Rattle.laws.proofs.Tests.{not_one}
use Rattle.quantities.specs.Limits.{row_capacity}
use Rattle.quantities.specs.declared.Row.{Row}
use Rattle.quantities.specs.declared.Table.{Table}
use Rattle.quantities.specs.Table.{rows_of}
use Rattle.quantities.specs.Checks.{SoundList}
use Rattle.quantities.specs.Paper.{Paper, paper}
use Rattle.quantities.proofs.SoundRows.{sound_rows_each}
use Rattle.quantities.specs.declared.Instant.{Instant}
use Rattle.bench.specs.declared.Bench.{Bench}
use Rattle.bench.specs.declared.Refusal.{Refusal}
use Rattle.bench.specs.declared.Refusal.TheVariants.{Unfinished}
use Rattle.bench.specs.State.{row_at, state_at}
use Rattle.bench.specs.Refusal.{refusal_paper, outcome_paper}
use Rattle.bench.specs.Serving.{units, finished}
use Rattle.bench.specs.Step.{Step, served, taken, empty_bench}
use Rattle.bench.specs.History.{Call, releases, ticks, call_tests, do_call, after}
use Rattle.bench.proofs.Steps.{CallCase, refused, released, ticked, call_case}
use Rattle.bench.proofs.Kept.{opened_empty}
use Rattle.running.specs.Running.{bounds_of, bound_at, LessAgo, OverInTime, EndsInTime}
use Rattle.running.specs.Running.{NotUnfinished, Holds, BoundsHold}
use Rattle.running.proofs.State.{is_at, instant_of}
use Rattle.running.proofs.Invariant.{no_rows}
use Rattle.running.proofs.Reading.{RowFacts, inv_at, ended_in_time}
use Rattle.running.proofs.Tests.{UnfinishedAt, release_unfinished, tick_refusal}
use Rattle.running.proofs.Start.{inv_start, judged_walk}
use Rattle.running.proofs.Below.{opened_sound}
use Rattle.running.proofs.Calls.{InRun, run_after, run_steps}

-- a release that came less than the bound ago
pub less_ago : (now bound : ℕ) (last : Option Instant) → is_at last ≡ true → now < instant_of last + bound
    → LessAgo now bound last
less_ago now bound None at h = absurd (not_one cc)
less_ago now bound (Some at) is h = h

-- a refusal that is 21 on paper names its row
named_unfinished : (place other : ℕ) (why : Refusal) → why ≡ Unfinished other → refusal_paper why ≡ paper 21 place
    → other ≡ place
unfolding refusal_paper
named_unfinished place other why is says = ap (λ (p : Paper). p.place) (ap refusal_paper (sym is) ∙ says)

module _ {M : ℕ} {list : List Row} {bounds : List ℕ} (b : Bench) (run : InRun M list bounds b) where
  -- what is known of the row at a place
  at_place : (place : ℕ) → 1 ≤ place → place ≤ length bounds
      → RowFacts b.now.0 (row_at b place) (bound_at bounds place) (state_at b place)
  at_place place first within = rw run.rows_are (inv_at run.inv (place - 1) (omega arith))

  -- a row with work left is within its bound
  bench_over : (place : ℕ) → 1 ≤ place → place ≤ length bounds → OverInTime place (bound_at bounds place) b
  bench_over place first within busy =
      let row = at_place place first within in
      less_ago b.now.0 (bound_at bounds place) (state_at b place).last (row.known busy) (row.early busy)

  -- a release that keeps the gap finds the last poll over, since the gap is no less than the bound
  none_unfinished : (place : ℕ) → 1 ≤ place → place ≤ length bounds → (why : Refusal)
      → UnfinishedAt b place why → ⊥
  none_unfinished place first within why unfinished =
      let row = at_place place first within in
      let range = row.range in
      let gone = unfinished.kept (row.known unfinished.left) in
      let early = row.early unfinished.left in
      omega arith

  -- no call is refused with 21 of such a row,
  refused_otherwise : (place : ℕ) → 1 ≤ place → place ≤ length bounds → (call : Call) (why : Refusal)
      → first_failing (call_tests b call) ≡ some why → refusal_paper why ≡ paper 21 place → ⊥
  unfolding call_tests
  refused_otherwise place first within (releases other demand) why e says =
      let unfinished = release_unfinished b other demand why e (ap (λ (p : Paper). p.number) says) in
      let here = named_unfinished place other why unfinished.why_is says in
      none_unfinished other (omega arith) (omega arith) why unfinished
  refused_otherwise place first within ticks why e says = tick_refusal b why e (ap (λ (p : Paper). p.number) says)

  call_not_unfinished : (place : ℕ) → 1 ≤ place → place ≤ length bounds → (call : Call)
      → NotUnfinished place (do_call b call)
  unfolding taken outcome_paper
  call_not_unfinished place first within call = at (call_case b call)
    where
      at : {one : Call} {step : Step} → CallCase b one step → NotUnfinished place step
      at {one} (refused why q) says = refused_otherwise place first within one why q says
      at (released q may) says = let no : ◌≡◌ {A = ℕ} 0 21 = ap (λ (p : Paper). p.number) says in omega arith
      at (ticked q may) says = let no : ◌≡◌ {A = ℕ} 0 21 = ap (λ (p : Paper). p.number) says in omega arith

  -- and the polls that a call ends, which is a tick, took no longer than the bound
  call_ends : (place : ℕ) → 1 ≤ place → place ≤ length bounds → (call : Call)
      → EndsInTime place (bound_at bounds place) (do_call b call)
  unfolding taken served
  call_ends place first within call = at (call_case b call)
    where
      at : {one : Call} {step : Step} → CallCase b one step → EndsInTime place (bound_at bounds place) step
      at (refused why q) = tt
      at (released q may) = tt
      at (ticked q may) =
          rw run.rows_are
          (each_map (λ poll ended is. ended.1 (place - 1) (omega arith) (omega arith))
          (finished (suc b.now.0) 1 (units b.cores (take (length list) b.states)) b.states)
          (ended_in_time run.inv 1 b.cores))

module _ {M : ℕ} {list : List Row} {bounds : List ℕ} (place : ℕ)
    (first : 1 ≤ place) (within : place ≤ length bounds) where
  -- a bound holds in each history from a bench in a run
  run_holds : (start : Bench) (calls : List Call) → InRun M list bounds start
      → Holds start calls place (bound_at bounds place)
  run_holds start calls run =
      let end = run_after start calls run in
      record {
        over_in_time = bench_over (after start calls) end place first within;
        ends_in_time =
            run_steps (EndsInTime place (bound_at bounds place))
            (λ b call run. call_ends b run place first within call) start calls run;
        not_unfinished =
            run_steps (NotUnfinished place)
            (λ b call run. call_not_unfinished b run place first within call) start calls run;
        next_not_unfinished = λ demand.
            call_not_unfinished (after start calls) end place first within (releases place demand);
      }

-- an empty bench is in a run
run_start : (cores : ℕ) (table : Table) → SoundList cores (rows_of table)
    → InRun cores (rows_of table) (bounds_of cores table) (empty_bench cores table)
unfolding empty_bench
run_start cores table sound =
    record {
      cores_are = refl;
      rows_are = refl;
      inv =
          inv_start sound.some_cores
          (record { flags = []; vs = []; no_carrier = refl; no_work = refl; rows = no_rows })
          (sound_rows_each (rows_of table) sound.sound_rows) (judged_walk cores (rows_of table) sound) row_capacity
          sound.few_rows;
    }

-- Demand 3: the bound of every row that has one holds on a running board.
pub bounds_hold : BoundsHold
bounds_hold cores table start is calls place first within =
    let sound = opened_sound cores table start is in
    rw (opened_empty cores table start is).1
    (run_holds place first within (empty_bench cores table) calls (run_start cores table sound))
