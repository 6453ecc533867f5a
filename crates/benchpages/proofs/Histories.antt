-- Histories run, and the books of each row balance, as specs/Histories.antt says.
use Prim.Native.Nat.{ℕ, ◌+◌, ◌≤◌}
use native.Mathlib.Omega.{arith}
use mathlib.Core.Path.{◌≡◌, refl, ap, ◌∙◌}
use mathlib.Core.Bool.{Bool, true, false, cond, ◌&&◌}
use mathlib.Core.List.{List, [], ◌∷◌}
use lib.Dec.{eqb}
use lib.ListN.{length}
use Rattle.std.specs.Prelude.{Ok, Err}
use Rattle.bench.specs.declared.Bench.{Bench}
use Rattle.bench.specs.Refusal.{Outcome}
use Rattle.bench.specs.State.{rows, work, state_at}
use Rattle.bench.specs.Step.{release, tick}
use Rattle.bench.specs.History.{Call, releases, ticks, do_call, after, steps, is_taken, brought, gave, accepted, served_in}
use Rattle.bench.proofs.Kept.{Kept, kept_opened, kept_call}
use Rattle.bench.proofs.Balance.{call_balance, same_rows}
use Rattle.bench.proofs.Rules.{books_balance, opened_holds}
use Rattle.benchpages.specs.Histories.{HistoryRuns, was_taken, demand_accepted, units_served, Books}

pub history_runs : HistoryRuns
unfolding after steps
history_runs =
    record {
      a_release = λ b place demand. refl;
      a_tick = λ b. refl;
      no_call = λ b. (refl, refl);
      one_more = λ b call calls. (refl, refl);
    }

-- The words of the page are the definitions' own.
same_taken : (outcome : Outcome) → was_taken outcome ≡ is_taken outcome
unfolding is_taken
same_taken (Ok done) = refl
same_taken (Err why) = refl

same_choice : (t : Bool) (demand : ℕ) → cond t demand 0 ≡ elim t [ true ↦ demand | false ↦ 0 ]
same_choice true demand = refl
same_choice false demand = refl

same_accepted : (place : ℕ) (b : Bench) (calls : List Call) → demand_accepted place b calls ≡ accepted place b calls
unfolding accepted brought
same_accepted place b [] = refl
same_accepted place b (releases other demand ∷ calls) =
    let outcome = (release b other demand).outcome in
    let chosen : cond (eqb other place && was_taken outcome) demand 0 ≡ brought place b (releases other demand) =
    ap (λ (t : Bool). cond (eqb other place && t) demand 0) (same_taken outcome)
    ∙ same_choice (eqb other place && is_taken outcome) demand in
    omega (arith, chosen, same_accepted place (release b other demand).bench calls)
same_accepted place b (ticks ∷ calls) = omega (arith, same_accepted place (tick b).bench calls)

-- A tick takes off what remains of a row the units that it gives the row; a release gives none.
same_served : (place : ℕ) → 1 ≤ place → (b : Bench) → Kept b → place ≤ length (rows b) → (calls : List Call)
    → units_served place b calls ≡ served_in place b calls
unfolding served_in brought gave
same_served place low b k high [] = refl
same_served place low b k high (releases other demand ∷ calls) =
    let call = releases other demand in
    let there : place ≤ length (rows (do_call b call).bench) = rw (same_rows b call) high in
    omega (arith, same_served place low (do_call b call).bench (kept_call b call k) there calls)
same_served place low b k high (ticks ∷ calls) =
    let there : place ≤ length (rows (do_call b ticks).bench) = rw (same_rows b ticks) high in
    let later = same_served place low (do_call b ticks).bench (kept_call b ticks k) there calls in
    let here : work (state_at b place) + 0 ≡ gave place b ticks + work (state_at (tick b).bench place) =
    call_balance b k place low high ticks in
    omega (arith, here, later)

pub books : Books
unfolding after
books cores table start o calls place low high =
    let same : start.table ≡ table = ((opened_holds cores table start o).board []).1 in
    let high' : place ≤ length (rows start) = rw same high in
    same_accepted place start calls
    ∙ books_balance cores table start o calls place low high'
    ∙ omega (arith, same_served place low start (kept_opened cores table start o) high' calls)
