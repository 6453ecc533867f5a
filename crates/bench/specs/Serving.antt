-- What a tick does to the rows: which get a unit of work, what remains, and which polls end.
use Rattle.std.specs.Prelude.{ℕ, suc, ◌+◌, ◌-◌, min, Bool, true, false, ◌&&◌, List, [], ◌∷◌, eqb, ltb, Option, None, Some}
use Rattle.quantities.specs.declared.Instant.{Instant}
use Rattle.bench.specs.declared.RowState.{RowState}
use Rattle.bench.specs.declared.Finish.{Finish}
use Rattle.bench.specs.declared.Turn.{Turn}
use Rattle.bench.specs.State.{work}

-- how many of the rows have work remaining: the count that document 01 calls "how many"
unfoldable pub workers : List RowState → ℕ
workers [] = 0
workers (state ∷ states) = min 1 (work state) + workers states

-- the units that a row with this much work gets when this many cores are free: one, or none
unfoldable pub unit : (free left : ℕ) → ℕ
unit free left = min left (min 1 free)

-- the units that the rows get, from the top, when this many cores are free
unfoldable pub units : (free : ℕ) → List RowState → List ℕ
units free [] = []
units free (state ∷ states) = unit free (work state) ∷ units (free - unit free (work state)) states

-- the sum of units
abbrev pub sum : List ℕ → ℕ
sum [] = 0
sum (u ∷ us) = u + sum us

-- a row's state when it has got this many units
unfoldable pub after_units : ℕ → RowState → RowState
after_units u state = record { last = state.last; demand = state.demand; left = record { 0 = work state - u } }

-- the states of rows when they have got these units; states past the units stay
unfoldable pub worked : List ℕ → List RowState → List RowState
worked [] states = states
worked (u ∷ us) [] = []
worked (u ∷ us) (state ∷ states) = after_units u state ∷ worked us states

-- whether a row that got this many units has ended its poll: it got one, and nothing remains
unfoldable pub ends : ℕ → RowState → Bool
ends u state = ltb 0 u && eqb (work state - u) 0

-- the ticks from a last release to an instant
unfoldable pub since : (instant : ℕ) → Option Instant → ℕ
since instant None = 0
since instant (Some at) = instant - at.0

-- the row at a place, whose poll ended at an instant
unfoldable pub finish_of : (instant place : ℕ) → RowState → Finish
finish_of instant place state = record { place = place; response = record { 0 = since instant state.last } }

-- the polls that end at an instant, of rows from a place on that got these units, in rising place
unfoldable pub finished : (instant place : ℕ) → List ℕ → List RowState → List Finish
finished instant place [] states = []
finished instant place (u ∷ us) [] = []
finished instant place (u ∷ us) (state ∷ states) =
    elim (ends u state) [
      | true ↦ finish_of instant place state ∷ finished instant (suc place) us states
      | false ↦ finished instant (suc place) us states
    ]

-- one row's part in a tick as the code answers it: its state, the cores still free, whether its poll ended
unfoldable pub turn_of : (free : ℕ) → RowState → Turn
turn_of free state =
    let u = unit free (work state) in
    record { state = after_units u state; free = free - u; ends = ends u state }
