-- The order of the entries: a new one keeps them rising and adds itself alone, and rising entries have one order only.
use Prim.Native.Nat.{ℕ, suc, ◌<◌}
use native.Mathlib.Omega.{arith}
use mathlib.Core.Logic.{inl, inr, ⊎_elim}
use mathlib.Core.Path.{◌≡◌, refl, sym, ap, ◌∙◌}
use mathlib.Core.Bool.{Bool, true, false, cond, ◌||◌}
use mathlib.Core.List.{List, [], ◌∷◌}
use lib.Dec.{eqb, ltb}
use lib.ListN.{length}
use borrow.Author.Tests.{ltb-true, ltb-false, eqb-false}
use Rattle.laws.specs.Each.{Each}
use Rattle.laws.specs.Member.{Member}
use Rattle.laws.specs.Permuted.{Permuted, as_is, keep, swap, both}
use Rattle.laws.proofs.Permuted.{permuted_back, permuted_length, permuted_member}
use Rattle.laws.proofs.Lists.{each_member}
use Rattle.entries.specs.Entries.{used, inserted, Rising}
use Rattle.records.specs.declared.RowFields.{RowFields}
use Rattle.entries.proofs.Entries.{used_below}

-- what the entries and the new one have, they have with it
pub each_inserted : (P : RowFields → Type 0) (new : RowFields) (entries : List RowFields) → P new → Each P entries → Each P (inserted new entries)
unfolding inserted
each_inserted P new [] h e = (h, tt)
each_inserted P new (x ∷ entries) h e =
    go (ltb new.priority x.priority) (each_inserted P x entries e.0 e.1) (each_inserted P new entries h e.1)
  where
    go : (b : Bool) → Each P (inserted x entries) → Each P (inserted new entries) → Each P (cond b (new ∷ inserted x entries) (x ∷ inserted new entries))
    go true p q = (h, p)
    go false p q = (e.0, q)

-- the new entry is added, and nothing else changes but the order
pub inserted_permuted : (new : RowFields) (entries : List RowFields) → Permuted (new ∷ entries) (inserted new entries)
unfolding inserted
inserted_permuted new [] = as_is
inserted_permuted new (x ∷ entries) =
    go (ltb new.priority x.priority) (inserted_permuted x entries) (inserted_permuted new entries)
  where
    go : (b : Bool) → Permuted (x ∷ entries) (inserted x entries) → Permuted (new ∷ entries) (inserted new entries)
        → Permuted (new ∷ x ∷ entries) (cond b (new ∷ inserted x entries) (x ∷ inserted new entries))
    go true p q = keep new p
    go false p q = both (swap new x) (keep x q)

pub length_inserted : (new : RowFields) (entries : List RowFields) → length (inserted new entries) ≡ suc (length entries)
length_inserted new entries = sym (permuted_length (inserted_permuted new entries))

-- What it says that a priority is used by none of the entries.
module _ (p : ℕ) (x : RowFields) (entries : List RowFields) (u : used p (x ∷ entries) ≡ false) where
  pub unused_first : x.priority ≡ p → ⊥
  unfolding used
  unused_first = eqb-false x.priority p (go (eqb x.priority p) u)
    where
      go : (b : Bool) → (b || used p entries) ≡ false → b ≡ false
      go true e = e
      go false e = refl

  pub unused_rest : used p entries ≡ false
  unused_rest = sym (used_below p x entries unused_first) ∙ u

-- a priority above which all the entries stand is used by none of them
pub above_unused : (p : ℕ) (entries : List RowFields) → Each (λ x. p < x.priority) entries → used p entries ≡ false
unfolding used
above_unused p [] e = refl
above_unused p (x ∷ entries) e =
    let h : p < x.priority = e.0 in
    used_below p x entries (λ q. omega arith) ∙ above_unused p entries e.1

weaken : (m n : ℕ) (entries : List RowFields) → m < n → Each (λ x. n < x.priority) entries → Each (λ x. m < x.priority) entries
weaken m n [] h e = tt
weaken m n (x ∷ entries) h e = let k : n < x.priority = e.0 in (omega arith, weaken m n entries h e.1)

-- rising entries with a new one whose priority they do not use rise
pub inserted_rising : (new : RowFields) (entries : List RowFields) → Rising entries → used new.priority entries ≡ false → Rising (inserted new entries)
unfolding inserted
inserted_rising new [] r u = (tt, tt)
inserted_rising new (x ∷ entries) r u =
    go
    (ltb new.priority x.priority)
    refl
    (inserted_rising x entries r.1 (above_unused x.priority entries r.0))
    (inserted_rising new entries r.1 (unused_rest new.priority x entries u))
  where
    go : (b : Bool) → ltb new.priority x.priority ≡ b → Rising (inserted x entries) → Rising (inserted new entries)
        → Rising (cond b (new ∷ inserted x entries) (x ∷ inserted new entries))
    go true e p q =
        let h = ltb-true new.priority x.priority e in
        (each_inserted (λ y. new.priority < y.priority) x entries h (weaken new.priority x.priority entries h r.0), p)
    go false e p q =
        let h = ltb-false new.priority x.priority e in
        let n = unused_first new.priority x entries u in
        (each_inserted (λ y. x.priority < y.priority) new entries (omega arith) r.0, q)

-- Rising entries have one order only.
first_same : (x y : RowFields) (xs ys : List RowFields) → Rising (x ∷ xs) → Rising (y ∷ ys)
    → Member x (y ∷ ys) → Member y (x ∷ xs) → x ≡ y
first_same x y xs ys r s m n =
    ⊎_elim
    (λ (e : x ≡ y). e)
    (λ (t : Member x ys).
    ⊎_elim
    (λ (e : y ≡ x). sym e)
    (λ (u : Member y xs).
    let h = each_member (λ z. x.priority < z.priority) y xs r.0 u in
    let k = each_member (λ z. y.priority < z.priority) x ys s.0 t in
    absurd (omega arith))
    n)
    m

rest_in : (x y : RowFields) (xs ys : List RowFields) → x ≡ y → Each (λ z. x.priority < z.priority) xs → ((a : RowFields) → Member a (x ∷ xs) → Member a (y ∷ ys))
    → (a : RowFields) → Member a xs → Member a ys
rest_in x y xs ys same r f a m =
    ⊎_elim
    (λ (e : a ≡ y).
    let h = each_member (λ z. x.priority < z.priority) a xs r m in
    let k = ap (λ (z : RowFields). z.priority) (e ∙ sym same) in
    absurd (omega arith))
    (λ (t : Member a ys). t)
    (f a (inr m))

pub rising_same : (xs ys : List RowFields) → Rising xs → Rising ys → ((a : RowFields) → Member a xs → Member a ys) → ((a : RowFields) → Member a ys → Member a xs) → xs ≡ ys
rising_same [] [] r s f g = refl
rising_same [] (y ∷ ys) r s f g = absurd (g y (inl refl))
rising_same (x ∷ xs) [] r s f g = absurd (f x (inl refl))
rising_same (x ∷ xs) (y ∷ ys) r s f g =
    let e = first_same x y xs ys r s (f x (inl refl)) (g y (inl refl)) in
    let t = rising_same xs ys r.1 s.1 (rest_in x y xs ys e r.0 f) (rest_in y x ys xs (sym e) s.0 g) in
    cc

pub rising_permuted : (xs ys : List RowFields) → Rising xs → Rising ys → Permuted xs ys → xs ≡ ys
rising_permuted xs ys r s p =
    rising_same xs ys r s (λ a. permuted_member a p) (λ a. permuted_member a (permuted_back p))
