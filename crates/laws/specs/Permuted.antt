-- Two lists with the same elements, each as often, in any order.
use Rattle.std.specs.Prelude.{List, ◌∷◌}

pub data Permuted {A : Type 0} : List A → List A → Type 0 where
  as_is : {xs : List A} → Permuted xs xs
  keep : {xs ys : List A} (x : A) → Permuted xs ys → Permuted (x ∷ xs) (x ∷ ys)
  swap : {xs : List A} (x y : A) → Permuted (x ∷ y ∷ xs) (y ∷ x ∷ xs)
  both : {xs ys zs : List A} → Permuted xs ys → Permuted ys zs → Permuted xs zs
