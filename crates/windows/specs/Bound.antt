-- The bound of a row below rows whose bounds are known, and the bounds of a list from the top.
use Rattle.std.specs.Prelude.{ℕ, List, [], ◌∷◌}
use Rattle.std.proofs.Math.Option.{Option, none, some}
use Rattle.quantities.specs.declared.Row.{Row}
use Rattle.quantities.specs.Row.{cost, deadline}
use Rattle.windows.specs.Choice.{Bounded, bounded, Passes, passes}
use Rattle.windows.specs.Least.{least, IsLeast, NoneIn}

-- the least window from `own` to `top` that passes, on M cores below these rows
unfoldable pub window : (M own top : ℕ) → List Bounded → Option ℕ
window M own top above = least (passes M own above) own top

-- the bound of a row: its least window from C to D that passes
abbrev pub bound_of : ℕ → List Bounded → Row → Option ℕ
bound_of M above row = window M (cost row) (deadline row) above

-- b is the bound of a row below these rows: the least window from C to D that passes.
abbrev pub IsBound : ℕ → List Bounded → Row → ℕ → Type 0
IsBound M above row b = IsLeast (Passes M (cost row) above) (cost row) (deadline row) b

-- A row below these rows has no bound: no window from C to D passes.
abbrev pub NoBound : ℕ → List Bounded → Row → Type 0
NoBound M above row = NoneIn (Passes M (cost row) above) (cost row) (deadline row)

-- the bounds of rows below those above, from the top, up to the first row that has none
unfoldable pub bounds_below : ℕ → List Bounded → List Row → List ℕ
bounds_below M above [] = []
bounds_below M above (row ∷ rows) =
    elim (bound_of M above row) [ none ↦ [] | some b ↦ b ∷ bounds_below M (bounded row b ∷ above) rows ]
