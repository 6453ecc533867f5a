-- Laws of permuted lists: what does not depend on the order.
use Prim.Native.Nat.{suc}
use mathlib.Core.Logic.{inl, inr, ⊎_elim}
use mathlib.Core.Path.{◌≡◌, refl, ap, ◌∙◌}
use mathlib.Core.List.{List, [], ◌∷◌, ◌++◌}
use lib.ListN.{length}
use Rattle.laws.specs.Each.{Each}
use Rattle.laws.specs.Member.{Member}
use Rattle.laws.specs.Permuted.{Permuted, as_is, keep, swap, both}

module _ {A : Type 0} where
  pub permuted_back : {xs ys : List A} → Permuted xs ys → Permuted ys xs
  permuted_back as_is = as_is
  permuted_back (keep x p) = keep x (permuted_back p)
  permuted_back (swap x y) = swap y x
  permuted_back (both p q) = both (permuted_back q) (permuted_back p)

  pub permuted_length : {xs ys : List A} → Permuted xs ys → length xs ≡ length ys
  permuted_length as_is = refl
  permuted_length (keep x p) = ap suc (permuted_length p)
  permuted_length (swap x y) = refl
  permuted_length (both p q) = permuted_length p ∙ permuted_length q

  pub permuted_each : (P : A → Type 0) {xs ys : List A} → Permuted xs ys → Each P xs → Each P ys
  permuted_each P as_is e = e
  permuted_each P (keep x p) e = (e.0, permuted_each P p e.1)
  permuted_each P (swap x y) e = (e.1.0, (e.0, e.1.1))
  permuted_each P (both p q) e = permuted_each P q (permuted_each P p e)

  pub permuted_member : (a : A) {xs ys : List A} → Permuted xs ys → Member a xs → Member a ys
  permuted_member a as_is m = m
  permuted_member a (keep x p) m = ⊎_elim (λ e. inl e) (λ t. inr (permuted_member a p t)) m
  permuted_member a (swap x y) m = ⊎_elim (λ e. inr (inl e)) (λ t. ⊎_elim (λ e. inl e) (λ u. inr (inr u)) t) m
  permuted_member a (both p q) m = permuted_member a q (permuted_member a p m)

  pub permuted_after : (xs : List A) {ys zs : List A} → Permuted ys zs → Permuted (xs ++ ys) (xs ++ zs)
  permuted_after [] p = p
  permuted_after (x ∷ xs) p = keep x (permuted_after xs p)

  pub permuted_move : (x : A) (xs ys : List A) → Permuted (x ∷ xs ++ ys) (xs ++ (x ∷ ys))
  permuted_move x [] ys = as_is
  permuted_move x (y ∷ xs) ys = both (swap x y) (keep y (permuted_move x xs ys))
