-- How far a search for the least window may jump. These are the engine's words: no promise is made in them.
use Rattle.std.specs.Prelude.{ℕ, zero, suc, ◌+◌, ◌-◌, ◌*◌, ◌/◌, min, max, true, false, List, [], ◌∷◌, leb}
use Rattle.quantities.specs.Row.{cost, gap}
use Rattle.windows.specs.Window.{carry}
use Rattle.windows.specs.Choice.{Bounded, load, loads, most}

-- The row's own cost and one core's share of what the rows above take in the window x. No window from x to before it
-- passes.
unfoldable pub next : (M own : ℕ) → List Bounded → ℕ → ℕ
next M own above x = own + most (loads own x above) (M - 1) / M

-- How far the window x can grow with a row above taking every tick of it, whether or not the row carries in: without,
-- until its present poll is over; with carry-in, until the window is no longer what limits it.
unfoldable pub room : (own x : ℕ) → Bounded → ℕ
room own x b =
    min
    (x / gap b.row * cost b.row + cost b.row - (load own x b).without)
    (carry (cost b.row) (gap b.row) b.bound x - (load own x b).carrying)

abbrev pub rooms : (own x : ℕ) → List Bounded → List ℕ
rooms own x [] = []
rooms own x (b ∷ above) = room own x b ∷ rooms own x above

-- how many of the rows have room for δ ticks
unfoldable pub roomy : (δ : ℕ) → List ℕ → ℕ
roomy δ [] = 0
roomy δ (r ∷ rs) = elim (leb δ r) [ true ↦ suc (roomy δ rs) | false ↦ roomy δ rs ]

-- the least room of the rows that have some, at most `top`
unfoldable pub least_room : (top : ℕ) → List ℕ → ℕ
least_room top [] = top
least_room top (zero ∷ rs) = least_room top rs
least_room top (suc r ∷ rs) = min (suc r) (least_room top rs)

-- the ticks that M rows have room for: the least room of those that have some, if these are M or more
unfoldable pub stride : (M top : ℕ) → List ℕ → ℕ
stride M top rs = elim (leb M (roomy 1 rs)) [ true ↦ least_room top rs | false ↦ 0 ]

-- the window to try after x, which did not pass
unfoldable pub reach : (M own top : ℕ) → List Bounded → ℕ → ℕ
reach M own top above x = max (next M own above x) (suc (x + stride M top (rooms own x above)))
