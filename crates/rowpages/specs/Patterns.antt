-- Why formulas (5) and (6): the largest work of a row in a window that holds a poll of it, over all patterns.
use Rattle.std.specs.Prelude.{ℕ, ◌+◌, ◌-◌, ◌≤◌, min, ◌≡◌, List, [], ◌∷◌}
use Rattle.quantities.specs.declared.Row.{Row}
use Rattle.rowpages.specs.Lists.{RowInRange}
use Rattle.rowpages.specs.Windows.{without_carry, with_carry, IsLargest}

-- Releases, by offsets from the window's start: none before `from`, each at least t ticks after the last.
abbrev pub Spaced : (t from : ℕ) → (offsets : List ℕ) → Type 0
Spaced t from [] = Unit {0}
Spaced t from (offset ∷ later) = (from ≤ offset) × Spaced t (offset + t) later

-- What these polls can work in a window of x ticks: each c ticks, if that many are left of the window.
abbrev pub work_of : (c x : ℕ) → (offsets : List ℕ) → ℕ
work_of c x [] = 0
work_of c x (offset ∷ later) = min c (x - offset) + work_of c x later

-- Without carry-in, each poll that works in the window is released in it.
pub record WorkWithoutCarry (row : Row) (x w : ℕ) : Type 0 where
  pub offsets : List ℕ
  pub spaced : Spaced row.t.0 0 offsets
  pub works : work_of row.c.0 x offsets ≡ w

-- With carry-in, a poll was released e ticks before the window. It ran in the tick before the window
-- (document 000, Lemma 1) and is over by its bound r: at most C − 1 and at most r − e ticks of it are left.
-- The releases after it keep the gap T. (In a window shorter than C what is left of it is not cut at the
-- window's end: formula (6) is C there, and interference is cut at x − C_k + 1.)
pub record WorkWithCarry (row : Row) (r x w : ℕ) : Type 0 where
  pub e : ℕ
  pub before : 1 ≤ e
  pub offsets : List ℕ
  pub spaced : Spaced row.t.0 (row.t.0 - e) offsets
  pub works : min (row.c.0 - 1) (r - e) + work_of row.c.0 x offsets ≡ w

-- (5) is the largest work without carry-in: a pattern attains it, and none does more.
abbrev pub PlainIsLargest : Type 0
PlainIsLargest =
    (row : Row) (x : ℕ) → RowInRange row → IsLargest (WorkWithoutCarry row x) (without_carry row x)

-- (6) is the largest work with carry-in of a row whose bound is r, in a window that holds a poll of it.
abbrev pub CarryIsLargest : Type 0
CarryIsLargest =
    (row : Row) (r x : ℕ) → RowInRange row → row.c.0 ≤ r → r ≤ row.t.0 → row.c.0 ≤ x
    → IsLargest (WorkWithCarry row r x) (with_carry row r x)

-- In a shorter window, too, no pattern does more.
abbrev pub NoMoreThanCarry : Type 0
NoMoreThanCarry =
    (row : Row) (r x w : ℕ) → RowInRange row → row.c.0 ≤ r → r ≤ row.t.0
    → WorkWithCarry row r x w → w ≤ with_carry row r x
