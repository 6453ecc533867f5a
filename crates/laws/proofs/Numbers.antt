-- Laws of numbers: whole division, and counting in whole steps with a rest.
use Prim.Native.Nat.{ℕ, zero, suc, ◌+◌, ◌*◌, ◌/◌, ◌%◌, ◌≤◌, ◌<◌}
use mathlib.Core.Path.{◌≡◌, ap}
use native.Mathlib.Decide.{dec_le}
use native.Mathlib.Nat.{le-div_iff_mul-le, div-mul-le_self, div-add-mod', mul-le-mul_left, mul-le-mul_right}
use native.Mathlib.Nat.{le_trans, le_dest, lt_of_not-le}
use native.Mathlib.Omega.{arith}

-- a larger number has no smaller quotient
pub div_mono : (a b k : ℕ) → 0 < k → a ≤ b → a / k ≤ b / k
div_mono a b k h l = (le-div_iff_mul-le h).1 (le_trans (div-mul-le_self a k) l)

-- a number whose whole steps count for no more than they are stays within itself
pub div_mul_add_mod_le : (a k c : ℕ) → c ≤ k → a / k * c + a % k ≤ a
div_mul_add_mod_le a k c h = omega (arith, mul-le-mul_left (a / k) h, div-add-mod' a k)

-- A number q · t + m counts for q · c + u: each whole step t for c, and the rest m for u, which is at most c.
-- A larger number q' · t + m', whose rest is below a step, counts for no less, if a larger rest does not.
pub stairs : (t c q m u q' m' v : ℕ) → m' < t → q * t + m ≤ q' * t + m' → u ≤ c → (m ≤ m' → u ≤ v)
    → q * c + u ≤ q' * c + v
stairs t c q m u q' m' v below le top rests =
    elim (dec_le q q') [ yes h ↦ go (le_dest h) | no h ↦ absurd (beyond (lt_of_not-le h)) ]
  where
    beyond : q' < q → ⊥
    beyond h = omega (arith, mul-le-mul_right t h)

    go : (k : ℕ) × (q + k ≡ q') → q * c + u ≤ q' * c + v
    go (zero, e) = omega (arith, ap (λ i. i * c) e, rests (omega (arith, ap (λ i. i * t) e)))
    go (suc k, e) = omega (arith, ap (λ i. i * c) e)
