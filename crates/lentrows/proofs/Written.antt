-- Laws of a list whose first entries are written: one entry more, its length, and what it holds as numbers.
use Prim.Native.Nat.{ℕ, zero, suc, ◌≤◌, ◌<◌}
use native.Mathlib.Omega.{arith}
use native.Mathlib.Nat.{zero-add}
use mathlib.Core.Path.{◌≡◌, refl, ap, ◌∙◌}
use mathlib.Core.List.{List, [], ◌∷◌, ◌++◌}
use lib.ListN.{length, set, get_or, take, drop, length-append, length-drop}
use lib.Seq.{paste-suc, length-take-le}
use Rattle.quantities.specs.Limits.{row_capacity}
use Rattle.quantities.specs.Lengths.{numbers}
use Rattle.quantities.specs.declared.Row.{Row}
use Rattle.quantities.specs.declared.Ticks.{Ticks}
use Rattle.quantities.proofs.Lengths.{found_are}
use Rattle.windows.specs.Answer.{Judged, judged_into, bounds_after}
use Rattle.lentrows.specs.Lent.{LentAnalysis, front_replaced, told_of}
use Rattle.lentrows.specs.declared.Told.{Told}
use Rattle.lentrows.proofs.Lent.{bounds_fit}

module _ {A : Type 0} where
  -- one entry more
  pub first_next : (i : ℕ) (found before : List A) (none : A) → i < length found → i < length before
      → set (front_replaced i found before) i (get_or found i none) ≡ front_replaced (suc i) found before
  first_next i found before none some room = simp zero-add at (paste-suc before 0 found i none (omega arith) some)

  -- the list keeps its length
  pub first_long : (i : ℕ) (found before : List A) → i ≤ length found → i ≤ length before
      → length (front_replaced i found before) ≡ length before
  first_long i found before some room =
      omega (arith, length-append (take i found) (drop i before), length-take-le i found some, length-drop i before)

-- as numbers
numbers_drop : (n : ℕ) (before : List Ticks) → numbers (drop n before) ≡ drop n (numbers before)
numbers_drop zero before = refl
numbers_drop (suc n) [] = refl
numbers_drop (suc n) (b ∷ before) = numbers_drop n before

numbers_take : (n : ℕ) (found later : List Ticks) → numbers (take n found ++ later) ≡ take n (numbers found) ++ numbers later
numbers_take zero found later = refl
numbers_take (suc n) [] later = refl
numbers_take (suc n) (f ∷ found) later = ap (λ (zs : List ℕ). f.0 ∷ zs) (numbers_take n found later)

numbers_first : (n : ℕ) (found before : List Ticks) → numbers (front_replaced n found before) ≡ front_replaced n (numbers found) (numbers before)
numbers_first n found before =
    numbers_take n found (drop n before) ∙ ap (λ (zs : List ℕ). take n (numbers found) ++ zs) (numbers_drop n before)

-- the bounds told are no more than a table has rows, nor than there are entries
pub told_fits : (M entries : ℕ) (rows : List Row) (told : Told) → told ≡ told_of (judged_into M entries rows)
    → (told.shown ≤ row_capacity) × (told.shown ≤ entries)
unfolding told_of
told_fits M entries rows told e = rw e (bounds_fit M entries rows)

-- the bounds of what is judged, as numbers in the first entries, are what is to be written
pub told_written : (j : Judged) (told : Told) → told ≡ told_of j → (before : List ℕ)
    → front_replaced told.shown (numbers told.bounds) before ≡ bounds_after j before
unfolding told_of bounds_after
told_written j told e before = rw (e, found_are j.bounds) refl

-- what is told is the answer, and a list with the bounds told in its first entries is left as it says
pub lent_analysis : (j : Judged) (told : Told) → told ≡ told_of j → (before after : List Ticks)
    → after ≡ front_replaced told.shown told.bounds before
    → LentAnalysis j (numbers before) (numbers after) told.answer
unfolding told_of
lent_analysis j told e before after f =
    record {
      answers = ap (λ (t : Told). t.answer) e;
      leaves = ap numbers f ∙ numbers_first told.shown told.bounds before ∙ told_written j told e (numbers before);
    }
