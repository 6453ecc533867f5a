-- The least number, from one number up to another, that passes a test.
use Rattle.std.specs.Prelude.{ℕ, zero, suc, ◌-◌, ◌≤◌, ◌<◌, Bool, true, false}
use Rattle.std.proofs.Math.Option.{Option, none, some}

-- the first of `count` numbers, counted up from `from`, that passes
unfoldable pub first_of : (ℕ → Bool) → (count from : ℕ) → Option ℕ
first_of test zero from = none
first_of test (suc count) from = elim (test from) [ true ↦ some from | false ↦ first_of test count (suc from) ]

-- the least number from `from` to `to` that passes
unfoldable pub least : (ℕ → Bool) → (from to : ℕ) → Option ℕ
least test from to = first_of test (suc to - from) from

-- x is the least number from `from` to `to` with the property.
pub record IsLeast (P : ℕ → Type 0) (from to x : ℕ) : Type 0 where
  pub low : from ≤ x
  pub high : x ≤ to
  pub holds : P x
  pub first : (y : ℕ) → from ≤ y → y < x → P y → ⊥

-- No number from `from` to `to` has the property.
abbrev pub NoneIn : (P : ℕ → Type 0) → (from to : ℕ) → Type 0
NoneIn P from to = (x : ℕ) → from ≤ x → x ≤ to → P x → ⊥
