-- What the bench holds of its rows, and when number 29 is due for its record.
use Rattle.std.specs.Prelude.{ℕ, ◌-◌, Bool, true, false, ◌||◌, List, [], ◌∷◌, ltb, get_or, Option, None, Some}
use Rattle.std.proofs.Math.Option.{Option as Maybe, none, some}
use Rattle.quantities.specs.Row.{cost, no_row}
use Rattle.quantities.specs.Table.{rows_of}
use Rattle.quantities.specs.Checks.{list_fault}
use Rattle.quantities.specs.declared.Row.{Row}
use Rattle.quantities.specs.declared.Fault.{Fault}
use Rattle.quantities.specs.declared.Instant.{Instant}
use Rattle.bench.specs.declared.RowState.{RowState}
use Rattle.bench.specs.declared.Bench.{Bench}

-- the instant at which the bench's clock ends; the code's constant is tied to it by Bench::last_instant
abbrev pub last_instant : ℕ
last_instant = 1000000000

-- the state of a row that was never released
abbrev pub idle : RowState
idle = record { last = None; demand = record { 0 = 0 }; left = record { 0 = 0 } }

-- the work that remains of a row's last poll
abbrev pub work : RowState → ℕ
work state = state.left.0

-- the rows of the bench's table, from the top, and the row and the state at a place, counted from 1
abbrev pub rows : Bench → List Row
rows b = rows_of b.table

abbrev pub row_at : Bench → ℕ → Row
row_at b place = get_or (rows b) (place - 1) no_row

abbrev pub state_at : Bench → ℕ → RowState
state_at b place = get_or b.states (place - 1) idle

-- whether a last release is after the present instant, or there is work on a row never released
unfoldable pub last_broken : (now : ℕ) → Option Instant → (left : ℕ) → Bool
last_broken now None left = ltb 0 left
last_broken now (Some at) left = ltb now at.0

-- whether 29 is due for a row's state: by its last release, a demand above C, a remainder above that demand
unfoldable pub row_broken : (now : ℕ) → Row → RowState → Bool
row_broken now row state =
    last_broken now state.last (work state)
    || (ltb (cost row) state.demand.0 || ltb state.demand.0 (work state))

-- whether this is so of one of the rows and the states that stand beside them
unfoldable pub rows_broken : (now : ℕ) → List Row → List RowState → Bool
rows_broken now [] states = false
rows_broken now (row ∷ rest) [] = false
rows_broken now (row ∷ rest) (state ∷ states) = row_broken now row state || rows_broken now rest states

-- whether there is a fault
unfoldable pub is_fault : Maybe Fault → Bool
is_fault none = false
is_fault (some fault) = true

-- 29 is due: for a table failing one of checks 1 to 6, an instant past the clock's end, or a row's state
unfoldable pub broken : Bench → Bool
broken b =
    is_fault (list_fault b.cores (rows b))
    || (ltb last_instant b.now.0 || rows_broken b.now.0 (rows b) b.states)
