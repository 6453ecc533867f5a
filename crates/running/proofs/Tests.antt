-- What the tests of a release tell: what one that is taken keeps, and what a refusal with 21 would mean.
use Prim.Native.Nat.{ℕ, ◌-◌, ◌≤◌, ◌<◌}
use mathlib.Core.Path.{◌≡◌, refl}
use mathlib.Core.Bool.{Bool, true, false, ◌||◌}
use mathlib.Core.List.{[], ◌∷◌}
use mathlib.Core.Option.{some}
use native.Mathlib.Omega.{arith}
use lib.Dec.{eqb, ltb}
use lib.ListN.{length}
use borrow.Author.Tests.{ltb-true}
use Rattle.std.specs.Prelude.{Option, None, Some}
use Rattle.laws.specs.Checks.{check_for, first_failing}
use Rattle.laws.proofs.Tests.{not_one}
use Rattle.quantities.specs.Row.{cost, gap}
use Rattle.quantities.specs.declared.Instant.{Instant}
use Rattle.bench.specs.declared.Bench.{Bench}
use Rattle.bench.specs.declared.Refusal.{Refusal}
use Rattle.bench.specs.declared.Refusal.TheVariants.{NoPlace, Unfinished, TooSoon, WrongDemand}
use Rattle.bench.specs.declared.Refusal.TheVariants.{ClockEnd, BrokenRecord}
use Rattle.bench.specs.State.{rows, row_at, state_at, work, broken, last_instant}
use Rattle.bench.specs.Refusal.{too_soon, release_tests, tick_tests, refusal_paper}
use Rattle.bench.proofs.Gaps.{gap_kept}
use Rattle.bench.proofs.Permitted.{MayRelease}
use Rattle.running.proofs.State.{is_at, instant_of, ever, came}
use Rattle.running.proofs.Release.{Allowed}

-- a refusal of another number is not this one
same_number : (why other : Refusal) → some other ≡ some why → (refusal_paper why).number ≡ 21 → (refusal_paper other).number ≡ 21
same_number why other e n = let is : why ≡ other = cc in rw is at n

-- where the tests of a release in their order end with 21, the last fails and the one before it does not
pub last_failed : (place : ℕ) (t29 t20 t23 t22 t21 : Bool) (why : Refusal)
    → first_failing
    (check_for BrokenRecord t29
    ∷ check_for (NoPlace place) t20
    ∷ check_for (WrongDemand place) t23
    ∷ check_for (TooSoon place) t22
    ∷ check_for (Unfinished place) t21
    ∷ [])
    ≡ some why
    → (refusal_paper why).number ≡ 21 → (why ≡ Unfinished place) × ((t22 ≡ false) × (t21 ≡ true))
unfolding first_failing refusal_paper
last_failed p false false false false true why e n = (cc, (refl, refl))
last_failed p false false false false false why e n = absurd (not_one cc)
last_failed p false false false true t21 why e n = absurd (omega (arith, same_number why (TooSoon p) e n))
last_failed p false false true t22 t21 why e n = absurd (omega (arith, same_number why (WrongDemand p) e n))
last_failed p false true t23 t22 t21 why e n = absurd (omega (arith, same_number why (NoPlace p) e n))
last_failed p true t20 t23 t22 t21 why e n = absurd (omega (arith, same_number why BrokenRecord e n))

-- a release that is not too soon keeps the gap
pub gap_since : (now gap : ℕ) (last : Option Instant) → too_soon now gap last ≡ false → is_at last ≡ true
    → gap ≤ now - instant_of last
gap_since now gap None e at = absurd (not_one cc)
gap_since now gap (Some at) e _ = gap_kept now gap at e

-- What 21 means for the row at a place: it is the row named, the gap is kept, and there is work left.
pub record UnfinishedAt (b : Bench) (place : ℕ) (why : Refusal) : Type 0 where
  pub why_is : why ≡ Unfinished place
  pub kept : ever (state_at b place) ≡ true → gap (row_at b place) ≤ b.now.0 - came (state_at b place)
  pub left : 0 < work (state_at b place)

module _ (b : Bench) (place demand : ℕ) where
  pub release_allowed : MayRelease b place demand → Allowed b.now.0 demand (row_at b place) (state_at b place)
  release_allowed may =
      record {
        some = may.some_demand;
        fits = may.fits;
        kept = gap_since b.now.0 (gap (row_at b place)) (state_at b place).last may.late;
        over = may.done;
      }

  -- a release that is refused with 21 keeps the gap, and there is work left
  pub release_unfinished : (why : Refusal) → first_failing (release_tests b place demand) ≡ some why
      → (refusal_paper why).number ≡ 21
      → UnfinishedAt b place why
  unfolding release_tests
  release_unfinished why e n =
      let failed = last_failed place (broken b) (eqb place 0 || ltb (length (rows b)) place)
      (eqb demand 0 || ltb (cost (row_at b place)) demand)
      (too_soon b.now.0 (gap (row_at b place)) (state_at b place).last)
      (ltb 0 (work (state_at b place))) why e n in
      record {
        why_is = failed.0;
        kept = gap_since b.now.0 (gap (row_at b place)) (state_at b place).last failed.1.0;
        left = ltb-true 0 (work (state_at b place)) failed.1.1;
      }

-- a tick is never refused with 21
pub tick_refusal : (b : Bench) (why : Refusal) → first_failing (tick_tests b) ≡ some why → (refusal_paper why).number ≡ 21
    → ⊥
unfolding tick_tests first_failing refusal_paper
tick_refusal b = go (broken b) (eqb b.now.0 last_instant)
  where
    go : (t29 t24 : Bool) (why : Refusal)
        → first_failing (check_for BrokenRecord t29 ∷ check_for ClockEnd t24 ∷ []) ≡ some why → (refusal_paper why).number ≡ 21
        → ⊥
    go false false why e n = not_one cc
    go false true why e n = omega (arith, same_number why ClockEnd e n)
    go true t24 why e n = omega (arith, same_number why BrokenRecord e n)
