-- Checks 1 to 7 of a row list, in their order, and the fault of a list: the first check that fails.
use Rattle.std.specs.Prelude.{ℕ, zero, suc, ◌≤◌, ◌<◌, Bool, true, false, ◌||◌, List, [], ◌∷◌, ◌++◌, eqb, ltb, length}
use Rattle.std.specs.Prelude.{Result, Ok, Err}
use Rattle.std.proofs.Math.Option.{Option, none, some}
use Rattle.laws.specs.Checks.{Check, check_for, first_failing}
use Rattle.quantities.specs.Limits.{row_capacity, core_limit, largest_gap}
use Rattle.quantities.specs.Row.{cost, deadline, gap, SoundRow}
use Rattle.quantities.specs.Paper.{Paper, paper}
use Rattle.quantities.specs.declared.Row.{Row}
use Rattle.quantities.specs.declared.Fault.{Fault}
use Rattle.quantities.specs.declared.Fault.TheVariants.{WholeList, OneRow}

-- a check of document 01: its number, the place it speaks of (0 for the whole list), and whether it fails
abbrev pub check : ℕ → ℕ → Bool → Check Paper
check number place fails = check_for (paper number place) fails

-- whether a row is the last of a list, by the rows that stand below it
abbrev pub is_last : List Row → Bool
is_last [] = true
is_last (below ∷ rows) = false

-- the checks of the row at a place, which is the last of its list or not; 3 speaks of C itself
-- (the last row is checked as any other; 7/14 is to except it from 5, and to have 6 speak of its D)
unfoldable pub row_checks : (place : ℕ) (last : Bool) → Row → List (Check Paper)
row_checks place last row =
    check 3 place (eqb row.c.0 0)
    ∷ check 4 place (ltb (deadline row) (cost row))
    ∷ check 5 place (ltb (gap row) (deadline row))
    ∷ check 6 place (ltb largest_gap (gap row))
    ∷ []

-- the checks of rows that stand at a place and below, row by row
unfoldable pub rows_checks : ℕ → List Row → List (Check Paper)
rows_checks place [] = []
rows_checks place (row ∷ rows) = row_checks place (is_last rows) row ++ rows_checks (suc place) rows

-- the checks of a list of rows for a board with this many cores: 1, 2, then 3 to 6 of each row
unfoldable pub list_checks : ℕ → List Row → List (Check Paper)
list_checks cores rows =
    check 1 0 (eqb (length rows) 0 || ltb row_capacity (length rows))
    ∷ check 2 0 (eqb cores 0 || ltb core_limit cores)
    ∷ rows_checks 1 rows

-- the check of a bounds list with this many entries
unfoldable pub room_checks : ℕ → List Row → List (Check Paper)
room_checks entries rows = check 7 0 (ltb entries (length rows)) ∷ []

-- a failed check as a fault: of the whole list at place 0, else of the row at its place
unfoldable pub fault_from : Option Paper → Option Fault
fault_from none = none
fault_from (some one) =
    elim one.place [ zero ↦ some (WholeList one.number) | suc p ↦ some (OneRow one.number (suc p)) ]

-- the fault of the row at a place, if it has one: checks 3 to 6
abbrev pub row_fault : (place : ℕ) (last : Bool) → Row → Option Fault
row_fault place last row = fault_from (first_failing (row_checks place last row))

-- the fault of rows that stand at a place and below
abbrev pub rows_fault : ℕ → List Row → Option Fault
rows_fault place rows = fault_from (first_failing (rows_checks place rows))

-- the fault of a list, if it has one: checks 1 to 6
unfoldable pub list_fault : ℕ → List Row → Option Fault
list_fault cores rows = fault_from (first_failing (list_checks cores rows))

-- the fault of a list whose bounds go into a list with this many entries: checks 1 to 7
unfoldable pub lent_fault : ℕ → ℕ → List Row → Option Fault
lent_fault cores entries rows = fault_from (first_failing (list_checks cores rows ++ room_checks entries rows))

-- A row that passes checks 3 to 6 where it stands, as the last of its list or not.
abbrev pub SoundAt : (last : Bool) → Row → Type 0
SoundAt last row = SoundRow row

-- Rows that pass checks 3 to 6, each where it stands.
abbrev pub SoundRows : List Row → Type 0
SoundRows [] = Unit
SoundRows (row ∷ rows) = SoundAt (is_last rows) row × SoundRows rows

-- A list that passes checks 1 to 6 on a board with this many cores.
pub record SoundList (cores : ℕ) (rows : List Row) : Type 0 where
  pub some_rows : 0 < length rows
  pub few_rows : length rows ≤ row_capacity
  pub some_cores : 0 < cores
  pub few_cores : cores ≤ core_limit
  pub sound_rows : SoundRows rows

-- a fault, or none, as the code's functions answer it
unfoldable pub checked_of : Option Fault → Result (Unit {0}) Fault
checked_of none = Ok tt
checked_of (some fault) = Err fault
