-- How much a row above can do in a window: document 000, formulas (5) to (8).
use Rattle.std.specs.Prelude.{ℕ, ◌+◌, ◌-◌, ◌*◌, ◌/◌, ◌%◌, min}

-- Without carry-in: the most work, in a window of x ticks, of a row with cost c and gap t.
unfoldable pub plain : (c t x : ℕ) → ℕ
plain c t x = x / t * c + min (x % t) c

-- With carry-in: the same for a row whose bound is r, a poll of which began before the window.
-- The differences x − C and (y mod T) − (T − R) stop at 0, as document 01 says of them; T − R and C − 1 are not
-- negative for a row that passed the checks.
unfoldable pub carry : (c t r x : ℕ) → ℕ
carry c t r x =
    let y = x - c in
    y / t * c + c + min (y % t - (t - r)) (c - 1)

-- The ticks of a window x in which a row with this own cost can be held up: the limit of one row's interference.
unfoldable pub limit : (own x : ℕ) → ℕ
limit own x = x - own + 1

-- What a row that works w ticks in the window x takes from a row with this own cost.
unfoldable pub interference : (own x w : ℕ) → ℕ
interference own x w = min w (limit own x)
