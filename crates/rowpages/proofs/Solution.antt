-- The bound of a row is the least solution of document 000's equation (12).
use Prim.Native.Nat.{ℕ, zero, suc, ◌+◌, ◌-◌, ◌/◌, ◌≤◌, ◌<◌}
use native.Mathlib.Omega.{arith}
use native.Mathlib.Decide.{dec_le}
use mathlib.Core.Path.{◌≡◌}
use mathlib.Core.Logic.{⊎_elim}
use mathlib.Core.List.{List, [], ◌∷◌}
use lib.ListN.{length}
use Rattle.laws.specs.Each.{Each}
use Rattle.laws.proofs.Numbers.{div_mono}
use Rattle.quantities.specs.declared.Row.{Row}
use Rattle.windows.specs.Choice.{InRange}
use Rattle.windows.specs.Answer.{Judged}
use Rattle.windows.specs.Judgement.{above_index}
use Rattle.windows.proofs.Choice.{most_mono}
use Rattle.windows.proofs.Jump.{loads_mono}
use Rattle.rowpages.specs.Lists.{RowInRange}
use Rattle.rowpages.specs.Windows.{row_at, bound_at, LeastWindow, JudgedBy, IsLargest, AddUpTo}
use Rattle.rowpages.specs.Windows.{LeastSolution, BoundsSolve}
use Rattle.rowpages.proofs.Windows.{most_above, most_is_largest, floor_form}

-- a row of a list in range is in range
row_in_range : (rows : List Row) → Each RowInRange rows → (i : ℕ) → i < length rows
    → RowInRange (row_at rows i)
row_in_range [] each i h = absurd (omega arith)
row_in_range (row ∷ rows) (r, each) zero h = r
row_in_range (row ∷ rows) (r, each) (suc i) h = row_in_range rows each i (omega arith)

-- rows above with their least windows are in range
above_in_range : (M : ℕ) (rows : List Row) (bounds : List ℕ) (n : ℕ)
    → ((i : ℕ) → i < n → RowInRange (row_at rows i))
    → ((i : ℕ) → i < n → LeastWindow M rows bounds i (bound_at bounds i))
    → Each InRange (above_index rows bounds n)
above_in_range M rows bounds zero range least = tt
above_in_range M rows bounds (suc n) range least =
    let r = range n (omega arith) in
    let b = least n (omega arith) in (
      record { works = r.some_work; low = b.low; high = omega arith },
      above_in_range M rows bounds n (λ i h. range i (omega arith)) (λ i h. least i (omega arith)),
    )

-- the rows above take no less in a longer window
most_above_mono : (M : ℕ) (rows : List Row) (bounds : List ℕ) (k x y : ℕ)
    → Each InRange (above_index rows bounds k) → x ≤ y
    → most_above M rows bounds k x ≤ most_above M rows bounds k y
most_above_mono M rows bounds k x y range longer =
    most_mono (M - 1) (loads_mono (row_at rows k).c.0 x y (above_index rows bounds k) range longer)

largest_unique : (P : ℕ → Type 0) (a b : ℕ) → IsLargest P a → IsLargest P b → a ≡ b
largest_unique P a b p q = omega (arith, p.no_more b q.has, q.no_more a p.has)

-- The least window that passes is the least solution: were floor(Ω / M) + C smaller than it, that window
-- would pass too, since its own Ω is no larger.
least_solution : (M : ℕ) (rows : List Row) (bounds : List ℕ) (k b : ℕ) → 1 ≤ M
    → Each InRange (above_index rows bounds k) → LeastWindow M rows bounds k b
    → LeastSolution M rows bounds k b
least_solution M rows bounds k b cores range least =
    record {
      solves = λ Ω largest.
          solves Ω largest ((floor_form M rows bounds k b Ω cores least.low largest).0 least.passes);
      first = λ y Ω low below largest e.
          least.first y low below ((floor_form M rows bounds k y Ω cores low largest).1 (omega arith));
    }
  where
    C : ℕ
    C = (row_at rows k).c.0

    smaller : (Ω : ℕ) → IsLargest (AddUpTo M rows bounds k b) Ω → Ω / M + C < b → ⊥
    smaller Ω largest below =
        let y = Ω / M + C in
        let same = largest_unique (AddUpTo M rows bounds k b) Ω (most_above M rows bounds k b) largest
        (most_is_largest M rows bounds k b) in
        let less : most_above M rows bounds k y ≤ Ω = omega
        (arith, most_above_mono M rows bounds k y b range (omega arith), same) in
        let part = div_mono (most_above M rows bounds k y) Ω M cores less in
        least.first y (omega arith) below
        ((floor_form M rows bounds k y (most_above M rows bounds k y) cores (omega arith)
        (most_is_largest M rows bounds k y)).1 (omega (arith, part)))

    solves : (Ω : ℕ) → IsLargest (AddUpTo M rows bounds k b) Ω → Ω / M + C ≤ b → b ≡ Ω / M + C
    solves Ω largest fits =
        elim (dec_le b (Ω / M + C)) [
          | yes reached ↦ omega arith
          | no longer ↦ absurd (smaller Ω largest (omega arith))
        ]

-- there are no more bounds than rows
few_bounds : (M : ℕ) (rows : List Row) (j : Judged) → JudgedBy M rows j → length j.bounds ≤ length rows
few_bounds M rows j by =
    ⊎_elim (λ all. omega (arith, all.each)) (λ short. omega (arith, short.stands)) by.ends

pub bounds_solve : BoundsSolve
bounds_solve cores rows j range by k h =
    least_solution cores rows j.bounds k (bound_at j.bounds k) range.some_cores
    (above_in_range cores rows j.bounds k
    (λ i l. row_in_range rows range.rows_in_range.each i (omega (arith, few_bounds cores rows j by)))
    (λ i l. by.least i (omega arith)))
    (by.least k h)
