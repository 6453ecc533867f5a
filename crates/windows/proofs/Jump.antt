-- A search for the least window may jump: no window from x to before the next of x passes.
use Prim.Native.Nat.{ℕ, ◌-◌, ◌≤◌, ◌<◌}
use mathlib.Core.Logic.Iff
use mathlib.Core.Logic.{◌↔◌}
use mathlib.Core.List.{List, [], ◌∷◌, Forall₂}
use native.Mathlib.Omega.{arith}
use lib.Dec.{T}
use Rattle.laws.specs.Each.{Each}
use Rattle.laws.proofs.Numbers.{div_mono}
use Rattle.quantities.specs.Row.{cost, gap}
use Rattle.windows.specs.Window.{plain, carry}
use Rattle.windows.specs.Choice.{Bounded, InRange, load, loads, Passes, most, passes}
use Rattle.windows.specs.Jump.{next}
use Rattle.windows.proofs.Window.{plain_mono, carry_mono, interference_mono}
use Rattle.windows.proofs.Choice.{Lighter, most_mono, passes_means, passes_floor}
use Rattle.windows.proofs.Least.{NoneBefore}

-- in a longer window a row above takes no less
pub load_mono : (own x y : ℕ) (b : Bounded) → InRange b → x ≤ y → Lighter (load own x b) (load own y b)
load_mono own x y b range longer =
    let c = cost b.row in
    let t = gap b.row in
    let positive : 0 < t = omega arith in
    record {
      without = interference_mono own x y (plain c t x) (plain c t y) longer (plain_mono c t x y positive longer);
      carrying = interference_mono own x y (carry c t b.bound x) (carry c t b.bound y) longer
          (carry_mono c t b.bound x y range.works positive longer);
    }

pub loads_mono : (own x y : ℕ) (above : List Bounded) → Each InRange above → x ≤ y
    → Forall₂ Lighter (loads own x above) (loads own y above)
loads_mono own x y [] range longer = Forall₂.nil
loads_mono own x y (b ∷ above) range longer =
    Forall₂.cons (load_mono own x y b range.0 longer) (loads_mono own x y above range.1 longer)

pub next_mono : (M own : ℕ) (above : List Bounded) (x y : ℕ) → 0 < M → Each InRange above → x ≤ y
    → next M own above x ≤ next M own above y
unfolding next
next_mono M own above x y cores range longer =
    let more = most_mono (M - 1) (loads_mono own x y above range longer) in
    omega (arith, div_mono (most (loads own x above) (M - 1)) (most (loads own y above) (M - 1)) M cores more)

-- a window passes exactly when it is no shorter than the next
pub passes_next : (M own : ℕ) (above : List Bounded) (x : ℕ) → 0 < M → own ≤ x
    → T (passes M own above x) ↔ (next M own above x ≤ x)
unfolding next
passes_next M own above x cores low =
    let floor = passes_floor M own above x cores low in
    (λ t. omega (arith, floor.0 t), λ le. floor.1 (omega arith))

-- the same of the rules' own words
pub next_means : (M own : ℕ) (above : List Bounded) (x : ℕ) → 0 < M → own ≤ x
    → Passes M own above x ↔ (next M own above x ≤ x)
next_means M own above x cores low =
    Iff.trans (Iff.symm (passes_means M own above x)) (passes_next M own above x cores low)

-- no window from x to before the next passes, since each has a next that is no shorter than that of x
pub jump : (M own : ℕ) (above : List Bounded) (x : ℕ) → 0 < M → Each InRange above → own ≤ x
    → NoneBefore (Passes M own above) x (next M own above x)
jump M own above x cores range low y longer less holds =
    let reached = (next_means M own above y cores (omega arith)).0 holds in
    omega (arith, next_mono M own above x y cores range longer)
