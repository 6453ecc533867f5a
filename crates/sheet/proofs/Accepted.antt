-- Rows that are accepted one after the other: few enough, permitted priorities, all different.
use Prim.Native.Nat.{ℕ, ◌+◌, ◌≤◌, ◌<◌}
use native.Mathlib.Omega.{arith}
use mathlib.Core.Path.{◌≡◌, refl, sym, ◌∙◌}
use mathlib.Core.Bool.{Bool, true, false, ◌||◌}
use mathlib.Core.List.{List, [], ◌∷◌, ◌++◌}
use lib.Dec.{eqb}
use lib.ListN.{length}
use Rattle.laws.specs.Each.{Each}
use Rattle.laws.specs.Permuted.{Permuted, as_is, keep, swap, both}
use Rattle.laws.proofs.Permuted.{permuted_after, permuted_move}
use Rattle.quantities.specs.Limits.{row_capacity}
use Rattle.entries.specs.Entries.{used, inserted, inserted_all, Rising, Different}
use Rattle.sheet.specs.Whole.{PriorityInRange}
use Rattle.records.specs.declared.RowFields.{RowFields}
use Rattle.entries.proofs.Entries.{used_below}
use Rattle.entries.proofs.Order.{inserted_permuted, inserted_rising, length_inserted, unused_first, unused_rest}

-- new entries that are accepted after those that are there, in their order
abbrev pub Accepted : List RowFields → List RowFields → Type 0
Accepted entries [] = Unit {0}
Accepted entries (new ∷ news) =
    (length entries < row_capacity) × PriorityInRange new × (used new.priority entries ≡ false) × Accepted (inserted new entries) news

-- none of the new entries has a priority that is used
abbrev pub Fresh : List RowFields → List RowFields → Type 0
Fresh entries news = Each (λ new. used new.priority entries ≡ false) news

-- accepted entries rise
pub accepted_rising : (entries news : List RowFields) → Rising entries → Accepted entries news → Rising (inserted_all news entries)
unfolding inserted_all
accepted_rising entries [] r a = r
accepted_rising entries (new ∷ news) r a =
    accepted_rising (inserted new entries) news (inserted_rising new entries r a.2) a.3

-- and they are the new ones and those that were there
pub all_permuted : (entries news : List RowFields) → Permuted (news ++ entries) (inserted_all news entries)
unfolding inserted_all
all_permuted entries [] = as_is
all_permuted entries (new ∷ news) =
    both (permuted_move new news entries) (both (permuted_after news (inserted_permuted new entries)) (all_permuted (inserted new entries) news))

-- whether a priority is used does not depend on the order
pub used_permuted : (p : ℕ) {xs ys : List RowFields} → Permuted xs ys → used p xs ≡ used p ys
unfolding used
used_permuted p as_is = refl
used_permuted p (keep x q) = rw (used_permuted p q)
used_permuted p (swap {xs} x y) = either (eqb x.priority p) (eqb y.priority p)
  where
    either : (a b : Bool) → (a || (b || used p xs)) ≡ (b || (a || used p xs))
    either true true = refl
    either true false = refl
    either false b = refl
used_permuted p (both q r) = used_permuted p q ∙ used_permuted p r

-- Entries that differ from one another and from those that are there, in other words.
each_differs : (p : ℕ) (news : List RowFields) → Each (λ new. new.priority ≡ p → ⊥) news → used p news ≡ false
unfolding used
each_differs p [] e = refl
each_differs p (x ∷ news) e = used_below p x news e.0 ∙ each_differs p news e.1

differs_each : (p : ℕ) (news : List RowFields) → used p news ≡ false → Each (λ new. new.priority ≡ p → ⊥) news
differs_each p [] u = tt
differs_each p (x ∷ news) u = (unused_first p x news u, differs_each p news (unused_rest p x news u))

fresh_after : (new : RowFields) (entries news : List RowFields) → Each (λ x. x.priority ≡ new.priority → ⊥) news → Fresh entries news → Fresh (inserted new entries) news
fresh_after new entries [] d f = tt
fresh_after new entries (x ∷ news) d f =
    (sym (used_permuted x.priority (inserted_permuted new entries)) ∙ used_below x.priority new entries (λ e. d.0 (sym e)) ∙ f.0, fresh_after new entries news d.1 f.1)

fresh_before : (new : RowFields) (entries news : List RowFields) → Fresh (inserted new entries) news → Each (λ x. x.priority ≡ new.priority → ⊥) news × Fresh entries news
fresh_before new entries [] f = (tt, tt)
fresh_before new entries (x ∷ news) f =
    let u = used_permuted x.priority (inserted_permuted new entries) ∙ f.0 in
    let r = fresh_before new entries news f.1 in
    ((λ e. unused_first x.priority new entries u (sym e), r.0), (unused_rest x.priority new entries u, r.1))

-- What is asked of entries for them to be accepted, whatever their order.
pub record Acceptable (entries news : List RowFields) : Type 0 where
  pub few : length news + length entries ≤ row_capacity
  pub permitted : Each PriorityInRange news
  pub different : Different news
  pub fresh : Fresh entries news

pub accepted : (entries news : List RowFields) → Acceptable entries news → Accepted entries news
accepted entries [] a = tt
accepted entries (new ∷ news) a =
    (omega (arith, a.few), a.permitted.0, a.fresh.0, accepted (inserted new entries) news (record { few = omega (arith, a.few, length_inserted new entries); permitted = a.permitted.1; different = a.different.1; fresh = fresh_after new entries news (differs_each new.priority news a.different.0) a.fresh.1 }))

pub acceptable : (entries news : List RowFields) → length entries ≤ row_capacity → Accepted entries news → Acceptable entries news
acceptable entries [] h a = record { few = omega arith; permitted = tt; different = tt; fresh = tt }
acceptable entries (new ∷ news) h a =
    let room : length entries < row_capacity = a.0 in
    let r = acceptable (inserted new entries) news (omega (arith, length_inserted new entries)) a.3 in
    let b = fresh_before new entries news r.fresh in
    record {
      few = omega (arith, r.few, length_inserted new entries);
      permitted = (a.1, r.permitted);
      different = (each_differs new.priority news b.0, r.different);
      fresh = (a.2, b.1);
    }
