-- The tick rule: the highest min(M, how many) rows with work get one unit each, and no other does.
use Prim.Native.Nat.{ℕ, zero, suc, ◌-◌, ◌≤◌, ◌<◌, min}
use native.Mathlib.Omega.{arith}
use mathlib.Core.Path.{◌≡◌, refl, sym, ap}
use mathlib.Core.List.{List, [], ◌∷◌}
use lib.ListN.{length, get_or, take}
use Rattle.bench.specs.declared.RowState.{RowState}
use Rattle.bench.specs.State.{idle, work}
use Rattle.bench.specs.Serving.{unit, units, sum, workers, after_units, worked}
use Rattle.bench.proofs.Rows.{less_none}

-- What is to know of a row's unit u when m cores are free and l is its work.
pub record Unit-facts (m l u : ℕ) : Type 0 where
  pub le_one : u ≤ 1
  pub le_left : u ≤ l
  pub le_spare : u ≤ m
  pub is_min : u ≡ min l (min 1 m)

pub unit_facts : (m l : ℕ) → Unit-facts m l (unit m l)
unfolding unit
unit_facts m l = record { le_one = omega arith; le_left = omega arith; le_spare = omega arith; is_min = refl }

-- a row with work, below fewer rows with work than there are cores, gets one unit
pub unit_high : (free i : ℕ) (states : List RowState) → 0 < work (get_or states i idle) → workers (take i states) < free → get_or (units free states) i 0 ≡ 1
unfolding unit units workers
unit_high free i [] w h = absurd (omega arith)
unit_high free zero (s ∷ states) w h = omega arith
unit_high free (suc i) (s ∷ states) w h = unit_high (free - unit free (work s)) i states w (omega arith)

-- a row below as many rows with work as there are cores gets none
pub unit_low : (free i : ℕ) (states : List RowState) → free ≤ workers (take i states) → get_or (units free states) i 0 ≡ 0
unfolding unit units workers
unit_low free i [] h = refl
unit_low free zero (s ∷ states) h = omega arith
unit_low free (suc i) (s ∷ states) h = unit_low (free - unit free (work s)) i states (omega arith)

-- as many units are given as there are rows with work, up to the cores
pub units_total : (free : ℕ) (states : List RowState) → sum (units free states) ≡ min free (workers states)
unfolding units workers
units_total free [] = omega arith
units_total free (s ∷ states) =
    let f = unit_facts free (work s) in
    omega (arith, units_total (free - unit free (work s)) states)

-- no row gets more than it has work: so one without work gets none
pub unit_le_work : (free i : ℕ) (states : List RowState) → get_or (units free states) i 0 ≤ work (get_or states i idle)
unfolding units
unit_le_work free i [] = omega arith
unit_le_work free zero (s ∷ states) = (unit_facts free (work s)).le_left
unit_le_work free (suc i) (s ∷ states) = unit_le_work (free - unit free (work s)) i states

-- and none gets more than one
pub unit_le_one : (free i : ℕ) (states : List RowState) → get_or (units free states) i 0 ≤ 1
unfolding units
unit_le_one free i [] = omega arith
unit_le_one free zero (s ∷ states) = (unit_facts free (work s)).le_one
unit_le_one free (suc i) (s ∷ states) = unit_le_one (free - unit free (work s)) i states

-- the state of each row when the rows have got their units
pub worked_at : (us : List ℕ) (states : List RowState) (i : ℕ) → get_or (worked us states) i idle ≡ after_units (get_or us i 0) (get_or states i idle)
unfolding worked after_units
worked_at [] states i = sym (less_none (get_or states i idle))
worked_at (u ∷ us) [] i = sym (less_idle (get_or (u ∷ us) i 0))
  where
    less_idle : (n : ℕ) → after_units n idle ≡ idle
    less_idle n = let z : 0 - n ≡ 0 = omega arith in rw z
worked_at (u ∷ us) (s ∷ states) zero = refl
worked_at (u ∷ us) (s ∷ states) (suc i) = worked_at us states i

pub length_worked : (us : List ℕ) (states : List RowState) → length (worked us states) ≡ length states
unfolding worked
length_worked [] states = refl
length_worked (u ∷ us) [] = refl
length_worked (u ∷ us) (s ∷ states) = ap suc (length_worked us states)
