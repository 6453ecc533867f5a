-- One call on a bench, and many: each keeps the invariant, refused or not.
use Prim.Native.Nat.{ℕ, ◌-◌}
use mathlib.Core.Path.{◌≡◌}
use mathlib.Core.List.{List, [], ◌∷◌}
use lib.ListN.{get_or}
use Rattle.laws.specs.Each.{Each}
use Rattle.quantities.specs.declared.Row.{Row}
use Rattle.quantities.specs.Row.{no_row}
use Rattle.bench.specs.declared.Bench.{Bench}
use Rattle.bench.specs.State.{rows, state_at}
use Rattle.bench.specs.Step.{Step, started, served, moved, taken}
use Rattle.bench.specs.History.{Call, do_call, after, steps}
use Rattle.bench.proofs.Steps.{CallCase, refused, released, ticked, call_case}
use Rattle.running.proofs.Invariant.{no_facts, Inv}
use Rattle.running.proofs.Tick.{inv_tick}
use Rattle.running.proofs.Release.{Allowed, inv_release}
use Rattle.running.proofs.Tests.{release_allowed}

-- A bench in a run: it keeps its cores and rows, and the invariant is true of its rows with these bounds.
pub record InRun (M : ℕ) (list : List Row) (bounds : List ℕ) (b : Bench) : Type 0 where
  pub cores_are : b.cores ≡ M
  pub rows_are : rows b ≡ list
  pub inv : Inv M b.now.0 [] [] list bounds b.states

module _ {M : ℕ} {list : List Row} {bounds : List ℕ} where
  run_call : (b : Bench) (call : Call) → InRun M list bounds b → InRun M list bounds (do_call b call).bench
  unfolding started taken moved served
  run_call b call run = at (call_case b call)
    where
      at : {one : Call} {step : Step} → CallCase b one step → InRun M list bounds step.bench
      at (refused why q) = run
      at (released {place} {demand} q may) =
          let allowed : Allowed b.now.0 demand (get_or list (place - 1) no_row) (state_at b place) =
          rw run.rows_are at (release_allowed b place demand may) in
          record {
            cores_are = run.cores_are;
            rows_are = run.rows_are;
            inv = inv_release (place - 1) allowed run.inv;
          }
      at (ticked q may) =
          record {
            cores_are = run.cores_are;
            rows_are = run.rows_are;
            inv = rw (run.cores_are, run.rows_are) (inv_tick no_facts run.inv);
          }

  -- every state that a history leads to
  pub run_after : (b : Bench) (calls : List Call) → InRun M list bounds b
      → InRun M list bounds (after b calls)
  unfolding after
  run_after b [] run = run
  run_after b (call ∷ calls) run = run_after (do_call b call).bench calls (run_call b call run)

  -- what holds of each call from each bench in a run holds of each step of a history
  pub run_steps : (P : Step → Type 0) →
      ((b : Bench) (call : Call) → InRun M list bounds b → P (do_call b call))
      → (b : Bench) (calls : List Call) → InRun M list bounds b → Each P (steps b calls)
  unfolding steps
  run_steps P each b [] run = tt
  run_steps P each b (call ∷ calls) run =
      (each b call run, run_steps P each (do_call b call).bench calls (run_call b call run))
