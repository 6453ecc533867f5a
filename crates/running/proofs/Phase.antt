-- One row above through a tick and through a release, and the most that it works in a window.
use Prim.Native.Nat.{ℕ, zero, suc, ◌+◌, ◌-◌, ◌≤◌, ◌<◌, min}
use mathlib.Core.Path.{◌≡◌, refl}
use mathlib.Core.Logic.{◌⊎◌, inl, inr, ⊎_elim}
use mathlib.Core.Bool.{Bool, true, false}
use native.Mathlib.Omega.{arith}
use Rattle.quantities.specs.Row.{cost, gap}
use Rattle.windows.specs.Window.{plain, carry}
use Rattle.windows.specs.Choice.{Bounded, InRange}
use Rattle.windows.proofs.Window.{plain_runs, carry_runs, cost_le_carry}
use Rattle.bench.specs.declared.RowState.{RowState}
use Rattle.bench.specs.State.{work}
use Rattle.bench.specs.Serving.{after_units}
use Rattle.bench.specs.Step.{fresh}
use Rattle.running.proofs.State.{ever, came}
use Rattle.running.proofs.Invariant.{Phase, quiet, ran, carried, carried_ran}

-- a row that is served has work, so it is within its bound
served_in_time : (u left now end : ℕ) → u ≤ left → (0 < left → now < end) → (u ≡ 0) ⊎ (now < end)
served_in_time zero left now end le fact = inl refl
served_in_time (suc u) left now end le fact = inr (fact (omega arith))

-- a tick in which the row gets u units
pub phase_tick : {now start w u : ℕ} {b : Bounded} {st : RowState} {f : Bool} → u ≤ 1 → u ≤ work st
    → (0 < work st → now < came st + b.bound) → Phase now start b st w f
    → Phase (suc now) start b (after_units u st) (w + u) f
unfolding after_units
phase_tick one some fact (quiet p q) = quiet (omega arith) (omega arith)
phase_tick one some fact (ran j e past since total last) =
    ran j e (omega arith) since (omega arith) (omega arith)
phase_tick {now} {start} {w} {u} {b} {st} one some fact (carried e before left whole late) =
    carried e before (omega arith) (omega arith)
    (⊎_elim (λ (z : u ≡ 0). omega arith) (λ (l : now < came st + b.bound). omega arith)
    (served_in_time u (work st) now (came st + b.bound) some fact))
phase_tick one some fact (carried_ran ρ a j e past before part late since total last) =
    carried_ran ρ a j e (omega arith) before part late since (omega arith) (omega arith)

-- a release of the row, whose last poll is over and keeps the gap
pub phase_release : {now start w demand : ℕ} {b : Bounded} {st : RowState} {f : Bool} → work st ≡ 0
    → (ever st ≡ true → gap b.row ≤ now - came st) → start ≤ now → demand ≤ cost b.row
    → Phase now start b st w f → Phase now start b (fresh now demand) w f
phase_release over kept begun fits (quiet p q) =
    ran 0 refl (omega arith) (omega arith) (omega arith) (omega arith)
phase_release over kept begun fits (ran j e past since total last) =
    let gone = kept e in
    ran (suc j) refl (omega arith) (omega arith) (omega arith) (omega arith)
phase_release {w} {st} over kept begun fits (carried e before left whole late) =
    let gone = kept e in
    carried_ran (came st) w 0 refl (omega arith) before (omega arith) late
    (omega arith) (omega arith) (omega arith)
phase_release over kept begun fits (carried_ran ρ a j e past before part late since total last) =
    let gone = kept e in
    carried_ran ρ a (suc j) refl (omega arith) before part late (omega arith) (omega arith) (omega arith)

-- the most that a row works in a window of x ticks, by its flag
abbrev pub workload : Bool → Bounded → ℕ → ℕ
workload false b x = plain (cost b.row) (gap b.row) x
workload true b x = carry (cost b.row) (gap b.row) b.bound x

pub work_le : {now start w : ℕ} (x : ℕ) {b : Bounded} {st : RowState} {f : Bool} → InRange b
    → now ≡ start + x
    → Phase now start b st w f → w ≤ workload f b x
work_le x range span (quiet p q) = omega arith
work_le {now} {start} {w} x {b} {st} range span (ran j e past since total last) =
    let s = now - came st in
    let most = plain_runs (cost b.row) (gap b.row) j s (min (cost b.row) s) x (omega arith)
    (omega arith) (omega arith) (omega arith) in
    omega arith
work_le x {b} range span (carried e before left whole late) =
    omega (arith, cost_le_carry (cost b.row) (gap b.row) b.bound x)
work_le {now} {start} {w} x {b} {st} range span (carried_ran ρ a j e past before part late since total last) =
    let s = now - came st in
    let c = cost b.row in
    let most = carry_runs c (gap b.row) b.bound (start - ρ) a j s (min c s) x
    (omega arith) (omega arith) part (omega arith) (omega arith) (omega arith) (omega arith) in
    omega arith
