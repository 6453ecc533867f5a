-- Laws of tests: what holds of each part of a test that joins two, and the end of a case that cannot be.
use Prim.Native.Nat.{ℕ}
use native.Mathlib.Omega.{arith}
use mathlib.Core.Path.{◌≡◌, refl}
use mathlib.Core.Bool.{Bool, true, false, ◌||◌, ◌&&◌}

pub or_false : (a b : Bool) → (a || b) ≡ false → (a ≡ false) × (b ≡ false)
or_false true b e = (e, cc)
or_false false b e = (refl, e)

pub and_true : (a b : Bool) → (a && b) ≡ true → (a ≡ true) × (b ≡ true)
and_true true b e = (refl, e)
and_true false b e = (e, cc)

-- A case with equations that cannot hold together ends with `absurd (not_one cc)`: from such equations `cc` has every
-- equation, this one too.
pub not_one : ◌≡◌ {A = ℕ} 0 1 → ⊥
not_one e = omega arith
