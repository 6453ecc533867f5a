-- Laws of lists that the kit's library does not have.
use Prim.Native.Nat.{ℕ, zero, suc, ◌+◌, ◌<◌}
use native.Mathlib.Nat.{zero-add, suc-add}
use mathlib.Core.Logic.{inl, inr}
use mathlib.Core.Path.{◌≡◌, refl, sym, ap}
use mathlib.Core.List.{List, [], ◌∷◌, ◌++◌, map}
use native.Mathlib.Omega.{arith}
use lib.ListN.{length, get_or, take, drop, set, replicate}
use lib.Seq.{take-nil}
use Rattle.laws.specs.Each.{Each}
use Rattle.laws.specs.Member.{Member}

module _ {A : Type 0} where
  -- where the default is repeated, the default is read at each index
  pub get_d_repeated : (n i : ℕ) (d : A) → get_or (replicate n d) i d ≡ d
  get_d_repeated zero i d = refl
  get_d_repeated (suc n) zero d = refl
  get_d_repeated (suc n) (suc i) d = get_d_repeated n i d

  -- a list that goes on with the default reads as the list alone
  pub get_d_padded : (xs : List A) (n i : ℕ) (d : A) → get_or (xs ++ replicate n d) i d ≡ get_or xs i d
  get_d_padded [] n i d = get_d_repeated n i d
  get_d_padded (x ∷ xs) n zero d = refl
  get_d_padded (x ∷ xs) n (suc i) d = get_d_padded xs n i d

  -- what follows from a property of each element holds of each
  pub each_map : {P Q : A → Type 0} → ((x : A) → P x → Q x) → (xs : List A) → Each P xs → Each Q xs
  each_map f [] each = tt
  each_map f (x ∷ xs) each = (f x each.0, each_map f xs each.1)

  -- what holds of each element holds of the one at an index
  pub each_at : (P : A → Type 0) (xs : List A) (i : ℕ) (d : A) → i < length xs → Each P xs → P (get_or xs i d)
  each_at P [] i d h each = absurd (omega arith)
  each_at P (x ∷ xs) zero d h each = each.0
  each_at P (x ∷ xs) (suc i) d h each = each_at P xs i d (omega arith) each.1

  -- and of one that stands in the list
  pub each_member : (P : A → Type 0) (a : A) (xs : List A) → Each P xs → Member a xs → P a
  each_member P a [] each member = absurd member
  each_member P a (x ∷ xs) each (inl same) = rw same each.0
  each_member P a (x ∷ xs) each (inr member) = each_member P a xs each.1 member

  -- what is left of the first elements, past some of them, is the first of what is left
  pub drop_take : (m n : ℕ) (xs : List A) → drop m (take (m + n) xs) ≡ take n (drop m xs)
  drop_take zero n xs = rw zero-add
  drop_take (suc m) n [] = rw (suc-add m n) (sym (take-nil n))
  drop_take (suc m) n (x ∷ xs) = rw (suc-add m n) (drop_take m n xs)

module _ {A B : Type 0} (f : A → B) where
  -- a map of the first elements, and of a list with one element changed
  pub map_take : (n : ℕ) (xs : List A) → map f (take n xs) ≡ take n (map f xs)
  map_take zero xs = refl
  map_take (suc n) [] = refl
  map_take (suc n) (x ∷ xs) = ap (λ (ys : List B). f x ∷ ys) (map_take n xs)

  pub map_set : (xs : List A) (i : ℕ) (a : A) → map f (set xs i a) ≡ set (map f xs) i (f a)
  map_set [] i a = refl
  map_set (x ∷ xs) zero a = refl
  map_set (x ∷ xs) (suc i) a = ap (λ (ys : List B). f x ∷ ys) (map_set xs i a)

-- what holds of each element of two lists holds of each of the one after the other
pub each_append {ℓ} : {A : Type ℓ} (P : A → Type 0) (xs ys : List A) → Each P xs → Each P ys → Each P (xs ++ ys)
each_append P [] ys first second = second
each_append P (x ∷ xs) ys first second = (first.0, each_append P xs ys first.1 second)
