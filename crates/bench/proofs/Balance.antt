-- The books of a row balance: what it had and what a history brings it is what the history serves it and what remains.
use Prim.Native.Nat.{ℕ, ◌+◌, ◌-◌, ◌≤◌, ◌<◌}
use native.Mathlib.Nat.{zero-add, add-zero}
use native.Mathlib.Omega.{arith}
use mathlib.Core.Path.{◌≡◌, refl, sym, ap, ◌∙◌}
use mathlib.Core.Bool.{Bool, true, false, ◌&&◌}
use mathlib.Core.List.{List, [], ◌∷◌}
use mathlib.Core.Option.{some}
use lib.Dec.{eqb}
use lib.ListN.{length, get_or, take}
use lib.Seq.{get_or-set_same, get_or-set_other, get_or-take}
use borrow.Author.Tests.{eqb-true, eqb-false}
use Rattle.laws.proofs.Lists.{get_d_repeated}
use Rattle.quantities.specs.Limits.{row_capacity}
use Rattle.quantities.specs.Table.{rows_of}
use Rattle.quantities.specs.declared.Table.{Table}
use Rattle.quantities.proofs.Rows.{length_rows}
use Rattle.bench.specs.declared.Bench.{Bench}
use Rattle.bench.specs.State.{idle, work, rows, state_at}
use Rattle.bench.specs.Serving.{after_units}
use Rattle.bench.specs.Step.{Step, empty_bench, opened, fresh, started, served, moved, taken, release, tick}
use Rattle.bench.specs.History.{Call, releases, ticks, do_call, after, is_taken, brought, gave, accepted, served_in}
use Rattle.bench.proofs.State.{sound_fits}
use Rattle.bench.proofs.Permitted.{MayRelease}
use Rattle.bench.proofs.Units.{unit_le_work, worked_at}
use Rattle.bench.proofs.Steps.{CallCase, refused, released, ticked, call_case, same_board}
use Rattle.bench.proofs.Kept.{Kept, kept_call, kept_opened, opened_empty}

-- A permitted release at a place, seen from that place and from another.
module _ (b : Bench) (place demand : ℕ) (k : Kept b) (m : MayRelease b place demand) where
  pub started_here : state_at (started b place demand) place ≡ fresh b.now.0 demand
  unfolding started
  started_here =
      let fits = sound_fits b.cores b.table k.whole.sound in
      let l : place - 1 < length b.states = omega (arith, m.low, m.high, length_rows b.table, k.long) in
      get_or-set_same b.states (place - 1) (fresh b.now.0 demand) idle l

  pub started_elsewhere : (other : ℕ) → 0 < other → (other ≡ place → ⊥) → state_at (started b place demand) other ≡ state_at b other
  unfolding started
  started_elsewhere other h n =
      get_or-set_other b.states (place - 1) (other - 1) (fresh b.now.0 demand) idle (λ e. n (omega (arith, m.low)))

-- A tick, seen from a place.
pub moved_at : (b : Bench) (place : ℕ) → state_at (moved b) place ≡ after_units (get_or (served b) (place - 1) 0) (state_at b place)
unfolding moved
moved_at b place = worked_at (served b) b.states (place - 1)

pub served_le_work : (b : Bench) (place : ℕ) → 0 < place → place ≤ length (rows b) → get_or (served b) (place - 1) 0 ≤ work (state_at b place)
unfolding served
served_le_work b place low high =
    rw (← get_or-take (length (rows b)) b.states (place - 1) idle (omega arith))
    (unit_le_work _ (place - 1) (take (length (rows b)) b.states))

-- One call balances.
module _ (b : Bench) (k : Kept b) (place : ℕ) (low : 0 < place) (high : place ≤ length (rows b)) where
  release_balance : (other demand : ℕ) → work (state_at b place) + brought place b (releases other demand) ≡ work (state_at (release b other demand).bench place)
  unfolding brought is_taken
  release_balance other demand = at (call_case b (releases other demand))
    where
      here : (t : Bool) → eqb other place ≡ t → MayRelease b other demand
          → work (state_at b place) + elim (t && true) [ true ↦ demand | false ↦ 0 ] ≡ work (state_at (started b other demand) place)
      here true q m =
          let e = eqb-true other place q in
          let d = ap (λ p. work (state_at b p)) e in
          let s = ap work (started_here b other demand k m) in
          let p = ap (λ p. work (state_at (started b other demand) p)) e in
          omega (arith, m.done)
      here false q m =
          let s = ap work (started_elsewhere b other demand k m place low (λ e. eqb-false other place q (sym e))) in
          omega arith

      nothing : (t : Bool)
          → work (state_at b place) + elim (t && false) [ true ↦ demand | false ↦ 0 ] ≡ work (state_at b place)
      nothing true = add-zero (work (state_at b place))
      nothing false = add-zero (work (state_at b place))

      at : {step : Step} → CallCase b (releases other demand) step
          → work (state_at b place) + elim (eqb other place && is_taken step.outcome) [ true ↦ demand | false ↦ 0 ]
          ≡ work (state_at step.bench place)
      at (refused why q) = nothing (eqb other place)
      at (released q may) = here (eqb other place) refl may

  tick_balance : work (state_at b place) ≡ gave place b ticks + work (state_at (tick b).bench place)
  unfolding gave is_taken taken after_units
  tick_balance = at (call_case b ticks)
    where
      at : {step : Step} → CallCase b ticks step
          → work (state_at b place)
          ≡ elim (is_taken step.outcome) [ true ↦ get_or (served b) (place - 1) 0 | false ↦ 0 ]
          + work (state_at step.bench place)
      at (refused why q) = sym (zero-add (work (state_at b place)))
      at (ticked q may) =
          let m = ap work (moved_at b place) in
          omega (arith, served_le_work b place low high)

  pub call_balance : (call : Call) → work (state_at b place) + brought place b call ≡ gave place b call + work (state_at (do_call b call).bench place)
  unfolding brought gave
  call_balance (releases other demand) = release_balance other demand ∙ sym (zero-add (work (state_at (release b other demand).bench place)))
  call_balance ticks = add-zero (work (state_at b place)) ∙ tick_balance

-- the rows of the bench stay
pub same_rows : (b : Bench) (call : Call) → rows (do_call b call).bench ≡ rows b
same_rows b call = ap rows_of (same_board b call).1

-- A history balances, from any well kept bench,
pub balance : (calls : List Call) (b : Bench) → Kept b → (place : ℕ) → 0 < place → place ≤ length (rows b)
    → work (state_at b place) + accepted place b calls ≡ served_in place b calls + work (state_at (after b calls) place)
unfolding accepted served_in after
balance [] b k place low high = omega arith
balance (call ∷ calls) b k place low high =
    let b' = (do_call b call).bench in
    let one = call_balance b k place low high call in
    let h : place ≤ length (rows b') = rw (same_rows b call) high in
    let more = balance calls b' (kept_call b call k) place low h in
    omega arith

-- and from an empty one: for each row, demand accepted equals units served plus what remains.
pub empty_balance : (cores : ℕ) (table : Table) (b : Bench) → opened cores table ≡ some b → (calls : List Call) (place : ℕ) → 0 < place → place ≤ length (rows b)
    → accepted place b calls ≡ served_in place b calls + work (state_at (after b calls) place)
unfolding empty_bench
empty_balance cores table b o calls place low high =
    let (sound, same) = opened_empty cores table b o in
    let none_yet : work (state_at b place) ≡ 0 = rw same (ap work (get_d_repeated row_capacity (place - 1) idle)) in
    let all = balance calls b (kept_opened cores table b o) place low high in
    omega arith
