-- Demand 3 for our parts, and that it is false for each of the changed ones: one board shows all of them.
use Prim.Native.Nat.{ℕ, ◌+◌, ◌-◌, ◌≤◌, ◌<◌}
use mathlib.Core.Path.{◌≡◌, refl, sym, ap, fun_ext, ◌∙◌}
use mathlib.Core.List.{List, [], ◌∷◌, ◌++◌}
use mathlib.Core.Option.{Option, none, some}
use native.Mathlib.Omega.{arith}
use lib.ListN.{length, replicate}
use Rattle.laws.specs.Each.{Each}
use Rattle.quantities.specs.declared.Row.{Row}
use Rattle.quantities.specs.declared.Table.{Table}
use Rattle.quantities.specs.Row.{cost, deadline, row_of, no_row}
use Rattle.quantities.specs.Table.{rows_of}
use Rattle.windows.specs.Window.{carry, limit, interference}
use Rattle.windows.specs.Choice.{Bounded, bounded, load, loads, passes}
use Rattle.windows.specs.Least.{least}
use Rattle.windows.specs.Bound.{window, bounds_below}
use Rattle.windows.specs.Answer.{Judged, verdict}
use Rattle.windows.proofs.Judgement.{judged_sound}
use Rattle.bench.specs.declared.Bench.{Bench}
use Rattle.bench.specs.declared.Finish.{Finish}
use Rattle.bench.specs.Serving.{workers}
use Rattle.bench.specs.Fakes.{idled, once, invented, inventing}
use Rattle.bench.specs.Step.{Step, empty_bench, opened}
use Rattle.bench.specs.History.{Call, releases, ticks, do_call, after, steps}
use Rattle.windows.specs.Computing.{answers_compute}
use Rattle.bench.specs.Computing.{bench_computes}
use Rattle.running.specs.Running.{bounds_of, bound_at, OverInTime, EndsInTime, NotUnfinished}
use Rattle.running.specs.Parts.{
  Parts,
  parts,
  carry_by,
  load_by,
  loads_by,
  passes_by,
  bounds_by,
  after_by,
  InTime,
  ours,
  with_tick,
  idling,
  early,
  HoldsForOurs,
  EachPartNeeded,
}
use Rattle.running.proofs.Below.{opened_sound}
use Rattle.running.proofs.Running.{bounds_hold}

-- With our parts, loads, tests and bounds are those of crates/windows,
load_ours : (own x : ℕ) (b : Bounded) → load_by ours own x b ≡ load own x b
unfolding carry_by carry interference limit
load_ours own x b = refl

loads_ours : (own x : ℕ) (above : List Bounded) → loads_by ours own x above ≡ loads own x above
loads_ours own x [] = refl
loads_ours own x (b ∷ above) = rw (load_ours own x b, loads_ours own x above)

passes_ours : (M own : ℕ) (above : List Bounded) (x : ℕ) → passes_by ours M own above x ≡ passes M own above x
unfolding passes_by passes
passes_ours M own above x = rw (loads_ours own x above)

bounds_ours : (M : ℕ) (above : List Bounded) (rows : List Row) → bounds_by ours M above rows ≡ bounds_below M above rows
unfolding bounds_by bounds_below window
bounds_ours M above [] = refl
bounds_ours M above (row ∷ rest) =
    same (least (passes_by ours M (cost row) above) (cost row) (deadline row))
    (least (passes M (cost row) above) (cost row) (deadline row))
    (ap (λ test. least test (cost row) (deadline row)) (fun_ext (passes_ours M (cost row) above)))
    (λ b. bounds_ours M (bounded row b ∷ above) rest)
  where
    same : (found other : Option ℕ) → found ≡ other
        → ((b : ℕ) → bounds_by ours M (bounded row b ∷ above) rest ≡ bounds_below M (bounded row b ∷ above) rest)
        → ◌≡◌ {A = List ℕ}
        (elim found [ none ↦ [] | some b ↦ b ∷ bounds_by ours M (bounded row b ∷ above) rest ])
        (elim other [ none ↦ [] | some b ↦ b ∷ bounds_below M (bounded row b ∷ above) rest ])
    same found none e below = rw e
    same found (some b) e below = rw (e, below b)

-- and histories are those of crates/bench.
after_ours : (b : Bench) (calls : List Call) → after_by ours b calls ≡ after b calls
unfolding after_by after
after_ours b [] = refl
after_ours b (call ∷ calls) = after_ours (do_call b call).bench calls

-- what holds of each step of a history with one call more holds of that call
pub last_step : (P : Step → Type 0) (b : Bench) (calls : List Call) (call : Call) → Each P (steps b (calls ++ call ∷ []))
    → P (do_call (after b calls) call)
unfolding steps after
last_step P b [] call each = each.0
last_step P b (first ∷ calls) call each = last_step P (do_call b first).bench calls call each.1

-- Demand 3 is the promise for our parts.
bounds_are : (cores : ℕ) (table : Table) (start : Bench) → opened cores table ≡ some start
    → bounds_by ours cores [] (rows_of table) ≡ bounds_of cores table
unfolding verdict
bounds_are cores table start is =
    bounds_ours cores [] (rows_of table)
    ∙ sym (ap (λ (j : Judged). j.bounds) (judged_sound cores (rows_of table) (opened_sound cores table start is)))

ours_in_time : InTime ours
ours_in_time cores table start is calls call place first =
    rw (bounds_are cores table start is, after_ours start calls)
    (λ within.
    let now = bounds_hold cores table start is calls place first within in
    let next = bounds_hold cores table start is (calls ++ call ∷ []) place first within in
    record {
      over_in_time = now.over_in_time;
      ends_in_time =
          last_step (EndsInTime place (bound_at (bounds_of cores table) place)) start calls call next.ends_in_time;
      not_unfinished = last_step (NotUnfinished place) start calls call next.not_unfinished;
    })

pub holds_for_ours : HoldsForOurs
holds_for_ours =
    record { bounds = λ M rows. bounds_ours M [] rows; histories = after_ours; in_time = ours_in_time }

-- The board that shows each changed part wrong: two cores, and rows whose bounds are 1, 1, 3 and 4.
abbrev board : Table
board = record { count = 4; rows = row_of 1 2 2 ∷ row_of 1 3 3 ∷ row_of 2 3 3 ∷ row_of 1 4 4 ∷ replicate 28 no_row }

abbrev start : Bench
start = empty_bench 2 board

is_opened : opened 2 board ≡ some start
unfolding bench_computes
is_opened = refl

abbrev poll : (place response : ℕ) → Finish
poll place response = record { place = place; response = record { 0 = response } }

-- A poll that ends later than promised shows that the promise is false.
late : (p : Parts) (calls : List Call) (place response : ℕ) (bounds : List ℕ) (others : List Finish)
    → bounds_by p 2 [] (rows_of board) ≡ bounds
    → (p.board (after_by p start calls) ticks).finishes ≡ poll place response ∷ others
    → 1 ≤ place → place ≤ length bounds → p.promised (bound_at bounds place) < response → InTime p → ⊥
late p calls place response bounds others are ended first within more promise =
    let kept = rw are at (promise 2 board start is_opened calls ticks place first) in
    let ends = rw ended at (kept within).ends_in_time in
    let low : response ≤ p.promised (bound_at bounds place) = ends.0 refl in
    omega arith

-- And so does work that is left when the bound is over.
unfinished : (p : Parts) (calls : List Call) (place : ℕ) (bounds : List ℕ)
    → bounds_by p 2 [] (rows_of board) ≡ bounds → 1 ≤ place → place ≤ length bounds
    → (OverInTime place (p.promised (bound_at bounds place)) (after_by p start calls) → ⊥) → InTime p → ⊥
unfinished p calls place bounds are first within not_over promise =
    let kept = rw are at (promise 2 board start is_opened calls ticks place first) in
    not_over (kept within).over_in_time

-- Row 3 carries in when row 4 is released at instant 2, and row 4 ends at 6, after its whole bound of 4 ticks.
abbrev carries_in : List Call
carries_in =
    releases 1 1
    ∷ releases 2 1
    ∷ releases 3 2
    ∷ ticks
    ∷ ticks
    ∷ releases 1 1
    ∷ releases 4 1
    ∷ ticks
    ∷ releases 2 1
    ∷ releases 3 2
    ∷ ticks
    ∷ releases 1 1
    ∷ ticks
    ∷ []

-- Row 1 alone has work in the first tick.
abbrev one_alone : List Call
one_alone = releases 1 1 ∷ ticks ∷ releases 4 1 ∷ []

-- Row 2 is released again 2 ticks after its last release, and its gap is 3.
abbrev too_soon_lem : List Call
too_soon_lem =
    releases 1 1
    ∷ releases 2 1
    ∷ releases 3 2
    ∷ ticks
    ∷ ticks
    ∷ releases 1 1
    ∷ releases 2 1
    ∷ ticks
    ∷ []

-- Row 3 has a unit left after the first tick.
abbrev left_alone : List Call
left_alone = releases 3 2 ∷ ticks ∷ ticks ∷ ticks ∷ []

-- Row 1 is released at instant 1 and ends at 2.
abbrev later_release : List Call
later_release = ticks ∷ releases 1 1 ∷ []

infixr 4 ◌&◌
◌&◌ : {A B : Type 0} → A → B → A × B
a & b = (a, b)

-- Each part is needed: with one of them changed, the promise is false.
pub each_part_needed : EachPartNeeded
unfolding answers_compute bench_computes workers idled once invented inventing idling early after_by carry_by passes_by
    bounds_by
each_part_needed =
    late (parts (λ own x. x - own + 1) (λ M. M - 1) (λ c. c - 1) (λ bound. bound - 1) do_call) carries_in 4 4 (1 ∷ 1 ∷ 3 ∷ 4 ∷ []) [] refl refl (omega arith) (omega arith) (omega arith)
    & late (parts (λ own x. x - own) (λ M. M - 1) (λ c. c - 1) (λ bound. bound) do_call) carries_in 4 4 (1 ∷ 1 ∷ 2 ∷ 1 ∷ []) [] refl refl (omega arith) (omega arith) (omega arith)
    & late (parts (λ own x. x - own + 1) (λ M. M - 2) (λ c. c - 1) (λ bound. bound) do_call) carries_in 4 4 (1 ∷ 1 ∷ 3 ∷ 3 ∷ []) [] refl refl (omega arith) (omega arith) (omega arith)
    & late (parts (λ own x. x - own + 1) (λ M. M - 1) (λ c. c - 2) (λ bound. bound) do_call) carries_in 4 4 (1 ∷ 1 ∷ 3 ∷ 3 ∷ []) [] refl refl (omega arith) (omega arith) (omega arith)
    & late (parts (λ own x. x - own + 1) (λ M. M - 1) (λ c. c - 1) (λ bound. bound) (with_tick idling)) one_alone 1 2 (1 ∷ 1 ∷ 3 ∷ 4 ∷ []) (poll 4 1 ∷ []) refl refl (omega arith) (omega arith) (omega arith)
    & late (parts (λ own x. x - own + 1) (λ M. M - 1) (λ c. c - 1) (λ bound. bound) early) too_soon_lem 3 4 (1 ∷ 1 ∷ 3 ∷ 4 ∷ []) [] refl refl (omega arith) (omega arith) (omega arith)
    & unfinished (parts (λ own x. x - own + 1) (λ M. M - 1) (λ c. c - 1) (λ bound. bound) (with_tick once)) left_alone 3 (1 ∷ 1 ∷ 3 ∷ 4 ∷ []) refl (omega arith) (omega arith)
    (λ over. let low : 3 < 3 = over (omega arith) in omega arith)
    & late (parts (λ own x. x - own + 1) (λ M. M - 1) (λ c. c - 1) (λ bound. bound) (with_tick inventing)) later_release 1 2 (1 ∷ 1 ∷ 3 ∷ 4 ∷ []) [] refl refl (omega arith) (omega arith) (omega arith)
    & tt
