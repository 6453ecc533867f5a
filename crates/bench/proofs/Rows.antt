-- Laws of one row's state: its last release, when its record is broken, and its part in a tick.
use Prim.Native.Nat.{ℕ, zero, suc, ◌-◌, ◌<◌}
use native.Mathlib.Nat.{sub-zero}
use native.Mathlib.Omega.{arith}
use mathlib.Core.Path.{◌≡◌, refl, sym, ◌∙◌}
use mathlib.Core.Bool.{false}
use lib.Dec.{eqb}
use borrow.Author.Tests.{ne_eqb}
use Rattle.bench.specs.declared.RowState.{RowState}
use Rattle.bench.specs.State.{work}
use Rattle.bench.specs.Serving.{unit, after_units, ends, turn_of}

-- What a row gets: nothing without a free core or without work, else one unit.
pub unit_no_core : (left : ℕ) → unit 0 left ≡ 0
unfolding unit
unit_no_core left = omega arith

pub unit_no_work : (free : ℕ) → unit free 0 ≡ 0
unfolding unit
unit_no_work free = omega arith

pub unit_one : (free left : ℕ) → 0 < free → 0 < left → unit free left ≡ 1
unfolding unit
unit_one free left f l = omega arith

-- a row that gets nothing stays as it is
pub less_none : (state : RowState) → after_units 0 state ≡ state
unfolding after_units
less_none state = rw (sub-zero (work state))

turn_none : (free : ℕ) (state : RowState) → unit free (work state) ≡ 0 → turn_of free state ≡ record { state = state; free = free; ends = false }
unfolding turn_of ends
turn_none free state e = rw (e, less_none state, sub-zero free)

-- One row's part in a tick, by the cases of the code.
pub turn_no_core : (free : ℕ) (state : RowState) → free ≡ 0 → turn_of free state ≡ record { state = state; free = free; ends = false }
turn_no_core free state e = turn_none free state (rw e (unit_no_core (work state)))

pub turn_no_work : (free : ℕ) (state : RowState) → work state ≡ 0 → turn_of free state ≡ record { state = state; free = free; ends = false }
turn_no_work free state e = turn_none free state (rw e (unit_no_work free))

pub turn_one : (free : ℕ) (state : RowState) → 0 < free → 0 < work state
    → turn_of free state ≡ record { state = record { last = state.last; demand = state.demand; left = record { 0 = work state - 1 } }; free = free - 1; ends = eqb (work state) 1 }
unfolding turn_of ends after_units
turn_one free state f l = rw (unit_one free (work state) f l, last_unit (work state) l)
  where
    last_unit : (left : ℕ) → 0 < left → eqb (left - 1) 0 ≡ eqb left 1
    last_unit zero h = absurd (omega arith)
    last_unit (suc zero) h = refl
    last_unit (suc (suc n)) h = ne_eqb (suc (suc n) - 1) 0 (omega arith) ∙ sym (ne_eqb (suc (suc n)) 1 (omega arith))

pub ruleset turn_cases = (turn_no_core, turn_no_work, turn_one)
