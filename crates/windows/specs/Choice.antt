-- Which rows above carry in, what every permitted choice adds up to, and when a window passes: formulas (9) and (12).
use Rattle.std.specs.Prelude.{ℕ, zero, suc, ◌+◌, ◌-◌, ◌*◌, ◌≤◌, ◌<◌, max, ◌≡◌, Bool, true, false, List, [], ◌∷◌, ltb, length}
use Rattle.quantities.specs.declared.Row.{Row}
use Rattle.quantities.specs.Row.{cost, gap}
use Rattle.windows.specs.Window.{plain, carry, limit, interference}

-- A row whose bound is known. The rows above another stand in a list, the nearest first.
pub record Bounded : Type 0 where
  pub row : Row
  pub bound : ℕ

abbrev pub bounded : Row → ℕ → Bounded
bounded row bound = record { row = row; bound = bound }

-- The bound of a row that passed the checks stands in range: at least its cost, which is not 0, and at most its gap.
pub record InRange (b : Bounded) : Type 0 where
  pub works : 1 ≤ cost b.row
  pub low : cost b.row ≤ b.bound
  pub high : b.bound ≤ gap b.row

-- What one row above takes from the row judged, without and with carry-in.
pub record Load : Type 0 where
  pub without : ℕ
  pub carrying : ℕ

-- the loads of the rows above on a row with this own cost, in a window of x ticks
abbrev pub load : (own x : ℕ) → Bounded → Load
load own x b =
    record {
      without = interference own x (plain (cost b.row) (gap b.row) x);
      carrying = interference own x (carry (cost b.row) (gap b.row) b.bound x);
    }

abbrev pub loads : (own x : ℕ) → List Bounded → List Load
loads own x [] = []
loads own x (b ∷ above) = load own x b ∷ loads own x above

-- A choice says of each row above whether it carries in. How many do:
abbrev pub carriers : List Bool → ℕ
carriers [] = 0
carriers (true ∷ choice) = suc (carriers choice)
carriers (false ∷ choice) = carriers choice

-- what the rows above take under a choice
abbrev pub total : List Load → List Bool → ℕ
total [] choice = 0
total (l ∷ ls) [] = l.without + total ls []
total (l ∷ ls) (true ∷ choice) = l.carrying + total ls choice
total (l ∷ ls) (false ∷ choice) = l.without + total ls choice

-- A choice among the rows above is permitted on M cores: it speaks of each row, and at most M − 1 carry in.
pub record Permitted (M : ℕ) (above : List Bounded) (choice : List Bool) : Type 0 where
  pub each : length choice ≡ length above
  pub few : carriers choice ≤ M - 1

-- The window x passes, on M cores, for a row with this own cost below these rows.
abbrev pub Passes : (M own : ℕ) → List Bounded → ℕ → Type 0
Passes M own above x =
    (choice : List Bool) → Permitted M above choice → total (loads own x above) choice < M * limit own x

-- The most that the rows can take when at most m of them carry in. Every choice's total is at most this, and one
-- attains it.
unfoldable pub most : List Load → ℕ → ℕ
most [] m = 0
most (l ∷ ls) zero = l.without + most ls zero
most (l ∷ ls) (suc m) = max (l.without + most ls (suc m)) (l.carrying + most ls m)

-- The same test as Passes, computed.
unfoldable pub passes : (M own : ℕ) → List Bounded → ℕ → Bool
passes M own above x = ltb (most (loads own x above) (M - 1)) (M * limit own x)
