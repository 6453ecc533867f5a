-- A row's state as the proof reads it, and the rows above a row in a tick, the nearest first.
use Prim.Native.Nat.{ℕ, ◌-◌}
use mathlib.Core.Bool.{Bool, true, false}
use mathlib.Core.List.{List, [], ◌∷◌}
use Rattle.std.specs.Prelude.{Option, None, Some}
use Rattle.quantities.specs.declared.Instant.{Instant}
use Rattle.bench.specs.declared.RowState.{RowState}
use Rattle.bench.specs.State.{work}
use Rattle.bench.specs.Serving.{unit, after_units}

-- whether there was a release, and its instant
abbrev pub is_at : Option Instant → Bool
is_at None = false
is_at (Some at) = true

abbrev pub instant_of : Option Instant → ℕ
instant_of None = 0
instant_of (Some at) = at.0

-- whether the row was ever released, and the instant at which its last poll came
abbrev pub ever : RowState → Bool
ever st = is_at st.last

abbrev pub came : RowState → ℕ
came st = instant_of st.last

-- the cores that rows leave free in a tick, the nearest first
abbrev pub spare : (M : ℕ) → List RowState → ℕ
spare M [] = M
spare M (st ∷ up) = spare M up - unit (spare M up) (work st)

-- the state of the row below these after the tick
abbrev pub served_below : (M : ℕ) → List RowState → RowState → RowState
served_below M up st = after_units (unit (spare M up) (work st)) st

-- the states of these rows after it
abbrev pub served_up : (M : ℕ) → List RowState → List RowState
served_up M [] = []
served_up M (st ∷ up) = served_below M up st ∷ served_up M up
