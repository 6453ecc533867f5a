-- What `most` means: no choice adds up to more, one attains it, so the computed test says what every choice says.
use Prim.Native.Nat.{ℕ, zero, suc, ◌+◌, ◌-◌, ◌*◌, ◌/◌, ◌≤◌, ◌<◌}
use mathlib.Core.Path.{◌≡◌, refl, ap, ◌∙◌}
use mathlib.Core.Logic.Iff
use mathlib.Core.Logic.{◌↔◌}
use mathlib.Core.Bool.{Bool, true, false}
use mathlib.Core.List.{List, [], ◌∷◌, Forall₂}
use native.Mathlib.Omega.{arith}
use native.Mathlib.Decide.{dec_le}
use native.Mathlib.Nat.{div-lt_iff_lt-mul}
use lib.Dec.{T, ltb→lt, lt→ltb}
use lib.ListN.{length}
use Rattle.laws.specs.Each.{Each}
use Rattle.quantities.specs.Row.{row_of}
use Rattle.windows.specs.Window.{plain, carry, limit, interference}
use Rattle.windows.specs.Choice.{Bounded, bounded, Load, load, loads, carriers, total, Passes, most, passes}
use Rattle.windows.proofs.Window.{interference_le_limit}

-- A choice that speaks of each row, with at most m carriers, and adds up to the most.
pub record Attains (ls : List Load) (m : ℕ) : Type 0 where
  pub choice : List Bool
  pub each : length choice ≡ length ls
  pub few : carriers choice ≤ m
  pub all : total ls choice ≡ most ls m

-- the row in front does not carry in
attained_without : (l : Load) {ls : List Load} {m : ℕ} → Attains ls m
    → l.without + most ls m ≡ most (l ∷ ls) m → Attains (l ∷ ls) m
attained_without l a more =
    record { choice = false ∷ a.choice; each = omega arith; few = a.few; all = omega arith }

-- the row in front carries in
attained_carrying : (l : Load) {ls : List Load} {m : ℕ} → Attains ls m
    → l.carrying + most ls m ≡ most (l ∷ ls) (suc m) → Attains (l ∷ ls) (suc m)
attained_carrying l a more =
    record { choice = true ∷ a.choice; each = omega arith; few = omega arith; all = omega arith }

-- one choice adds up to the most
pub attained : (ls : List Load) (m : ℕ) → Attains ls m
unfolding most
attained [] m = record { choice = []; each = refl; few = omega arith; all = refl }
attained (l ∷ ls) zero = attained_without l (attained ls zero) refl
attained (l ∷ ls) (suc m) =
    elim (dec_le (l.carrying + most ls m) (l.without + most ls (suc m))) [
      | yes h ↦ attained_without l (attained ls (suc m)) (omega arith)
      | no h ↦ attained_carrying l (attained ls m) (omega arith)
    ]

-- no choice with at most m carriers adds up to more
pub total_le_most : (ls : List Load) (choice : List Bool) (m : ℕ) → carriers choice ≤ m → total ls choice ≤ most ls m
unfolding most
total_le_most [] choice m few = omega arith
total_le_most (l ∷ ls) [] zero few = omega (arith, total_le_most ls [] zero few)
total_le_most (l ∷ ls) [] (suc m) few = omega (arith, total_le_most ls [] (suc m) few)
total_le_most (l ∷ ls) (false ∷ choice) zero few = omega (arith, total_le_most ls choice zero few)
total_le_most (l ∷ ls) (false ∷ choice) (suc m) few = omega (arith, total_le_most ls choice (suc m) few)
total_le_most (l ∷ ls) (true ∷ choice) zero few = absurd (omega arith)
total_le_most (l ∷ ls) (true ∷ choice) (suc m) few = omega (arith, total_le_most ls choice m (omega arith))

-- a load for each row
pub length_loads : (own x : ℕ) (above : List Bounded) → length (loads own x above) ≡ length above
length_loads own x [] = refl
length_loads own x (b ∷ above) = ap suc (length_loads own x above)

-- the computed test is the literal one: it holds when every permitted choice adds up to less than the limit
pub passes_means : (M own : ℕ) (above : List Bounded) (x : ℕ) → T (passes M own above x) ↔ Passes M own above x
unfolding passes
passes_means M own above x = (
  λ t choice p. omega (arith, ltb→lt, total_le_most (loads own x above) choice (M - 1) p.few, t),
  λ every.
      let a = attained (loads own x above) (M - 1) in
      let below = every a.choice (record { each = a.each ∙ length_loads own x above; few = a.few }) in
      lt→ltb (most (loads own x above) (M - 1)) (M * limit own x) (omega arith),
)

-- the computed test as a whole division
pub passes_floor : (M own : ℕ) (above : List Bounded) (x : ℕ) → 0 < M → own ≤ x
    → T (passes M own above x) ↔ (most (loads own x above) (M - 1) / M + own ≤ x)
unfolding passes limit
passes_floor M own above x cores low =
    let Ω = most (loads own x above) (M - 1) in
    let quotient = div-lt_iff_lt-mul {k = M} {x = Ω} {y = x - own + 1} cores in (
      λ t. let below = quotient.1 (omega (arith, ltb→lt Ω (M * (x - own + 1)) t)) in omega arith,
      λ fits. lt→ltb Ω (M * (x - own + 1)) (omega (arith, quotient.0 (omega arith))),
    )

-- document 01's other wording of the test: floor(Ω / M) + C ≤ x, with Ω the most that the rows above take
pub passes_as_floor : (M own : ℕ) (above : List Bounded) (x : ℕ) → 0 < M → own ≤ x
    → Passes M own above x ↔ (most (loads own x above) (M - 1) / M + own ≤ x)
passes_as_floor M own above x cores low =
    Iff.trans (Iff.symm (passes_means M own above x)) (passes_floor M own above x cores low)

-- l takes no more than k, without and with carry-in.
pub record Lighter (l k : Load) : Type 0 where
  pub without : l.without ≤ k.without
  pub carrying : l.carrying ≤ k.carrying

-- lighter rows take no more
pub most_mono : {ls ks : List Load} (m : ℕ) → Forall₂ Lighter ls ks → most ls m ≤ most ks m
unfolding most
most_mono m Forall₂.nil = omega arith
most_mono zero (Forall₂.cons h t) = omega (arith, most_mono zero t)
most_mono (suc m) (Forall₂.cons h t) = omega (arith, most_mono m t, most_mono (suc m) t)

-- a larger budget takes no less
pub most_suc : (ls : List Load) (m : ℕ) → most ls m ≤ most ls (suc m)
unfolding most
most_suc [] m = omega arith
most_suc (l ∷ ls) zero = omega (arith, most_suc ls zero)
most_suc (l ∷ ls) (suc m) = omega (arith, most_suc ls m, most_suc ls (suc m))

-- one carrier more takes at most the largest gain more
pub most_gain : (gain : ℕ) (ls : List Load) (m : ℕ) → Each (λ l. l.carrying ≤ l.without + gain) ls
    → most ls (suc m) ≤ most ls m + gain
unfolding most
most_gain gain [] m each = omega arith
most_gain gain (l ∷ ls) zero each = omega (arith, most_gain gain ls zero each.1)
most_gain gain (l ∷ ls) (suc m) each = omega (arith, most_gain gain ls m each.1, most_gain gain ls (suc m) each.1)

-- The row of document 01 with C 2, T 6, R 3, here with D 4, takes 2 ticks with carry-in in a window of 5. With D or T
-- where its bound R belongs it would take 3.
carries_to_its_bound : load 2 5 (bounded (row_of 2 4 6) 3) ≡ record { without = 2; carrying = 2 }
unfolding plain carry limit interference
carries_to_its_bound = refl

-- no row takes more than the limit
load_le_limit : (own x : ℕ) (b : Bounded)
    → Lighter (load own x b) (record { without = limit own x; carrying = limit own x })
load_le_limit own x b =
    record {
      without = interference_le_limit own x _;
      carrying = interference_le_limit own x _;
    }

-- so the sums of an engine stay small
pub most_le_limit : (own x m : ℕ) (above : List Bounded) → most (loads own x above) m ≤ length above * limit own x
unfolding most
most_le_limit own x m [] = omega arith
most_le_limit own x zero (b ∷ above) = omega (arith, load_le_limit own x b, most_le_limit own x zero above)
most_le_limit own x (suc m) (b ∷ above) =
    omega (arith, load_le_limit own x b, most_le_limit own x m above, most_le_limit own x (suc m) above)
