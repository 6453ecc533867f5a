-- Row lists: which lists are taken, and by which number and place of document 01 one is turned away.
use Rattle.std.specs.Prelude.{ℕ, zero, suc, ◌≤◌, ◌≡◌, ◌↔◌, ◌||◌, List, [], ◌∷◌, ◌++◌, eqb, ltb, length}
use Rattle.laws.specs.Each.{Each}
use Rattle.quantities.specs.declared.Row.{Row}
use Rattle.quantities.specs.declared.Fault.{Fault}
use Rattle.quantities.specs.declared.Fault.TheVariants.{WholeList, OneRow}
use Rattle.quantities.specs.Row.{row_of}
use Rattle.quantities.specs.Paper.{Paper, paper, fault_paper}
use Rattle.laws.specs.Checks.{Check, FirstFailing}
use Rattle.quantities.specs.Checks.{check}
use Rattle.windows.specs.declared.Answer.{Answer}
use Rattle.windows.specs.declared.Answer.TheVariants.{Refused}
use Rattle.windows.specs.Answer.{Judged, judged, answer_paper}

-- the checks of the row at a place: 3, 4, 5, 6
abbrev pub row_order : (place : ℕ) → Row → List (Check Paper)
row_order place row =
    check 3 place (eqb row.c.0 0)
    ∷ check 4 place (ltb row.d.0 row.c.0)
    ∷ check 5 place (ltb row.t.0 row.d.0)
    ∷ check 6 place (ltb 1000000 row.t.0)
    ∷ []

abbrev pub rows_order : (place : ℕ) → List Row → List (Check Paper)
rows_order place [] = []
rows_order place (row ∷ rows) = row_order place row ++ rows_order (suc place) rows

-- Order, list: 1, 2, then rows by place and within a row 3, 4, 5, 6;
abbrev pub list_order : (cores : ℕ) → List Row → List (Check Paper)
list_order cores rows =
    check 1 0 (eqb (length rows) 0 || ltb 32 (length rows))
    ∷ check 2 0 (eqb cores 0 || ltb 16 cores)
    ∷ rows_order 1 rows

-- then 7, where the bounds go into a list with this many entries.
abbrev pub lent_order : (cores entries : ℕ) → List Row → List (Check Paper)
lent_order cores entries rows = list_order cores rows ++ (check 7 0 (ltb entries (length rows)) ∷ [])

-- A fault itself says whether it concerns the whole list or one row at a place: place 0 is the whole list.
abbrev pub fault_at : (number place : ℕ) → Fault
fault_at number zero = WholeList number
fault_at number (suc p) = OneRow number (suc p)

-- A list is turned away by this check: with its number and place, as a fault of the list or of the row, and
-- no bounds.
pub record TurnedAwayBy (one : Paper) (j : Judged) : Type 0 where
  pub answers : j.answer ≡ Refused (fault_at one.number one.place)
  pub on_paper : answer_paper j.answer ≡ paper one.number one.place
  pub no_bounds : j.bounds ≡ []

-- An answer that refuses nothing.
abbrev pub NotRefused : Answer → Type 0
NotRefused answer = (fault : Fault) → answer ≡ Refused fault → ⊥

-- A list with a fault is turned away by the first check that fails.
abbrev pub FaultyListTurnedAway : Type 0
FaultyListTurnedAway =
    (cores : ℕ) (rows : List Row) (one : Paper) → FirstFailing (list_order cores rows) one
    → TurnedAwayBy one (judged cores rows)

-- And a list that is refused has that fault.
abbrev pub RefusedListHasFault : Type 0
RefusedListHasFault =
    (cores : ℕ) (rows : List Row) (fault : Fault) → (judged cores rows).answer ≡ Refused fault
    → FirstFailing (list_order cores rows) (fault_paper fault)

-- A row has C, D, T, all in ticks, 1 ≤ C ≤ D ≤ T ≤ 1,000,000.
pub record RowInRange (row : Row) : Type 0 where
  pub some_work : 1 ≤ row.c.0
  pub in_time : row.c.0 ≤ row.d.0
  pub in_gap : row.d.0 ≤ row.t.0
  pub short_gap : row.t.0 ≤ 1000000

-- Rows: 1 to 32.
pub record RowsInRange (rows : List Row) : Type 0 where
  pub some_rows : 1 ≤ length rows
  pub few_rows : length rows ≤ 32
  pub each : Each RowInRange rows

-- Cores M: 1 to 16.
pub record ListInRange (cores : ℕ) (rows : List Row) : Type 0 where
  pub some_cores : 1 ≤ cores
  pub few_cores : cores ≤ 16
  pub rows_in_range : RowsInRange rows

-- A list is taken exactly where its cores, its rows and their times are in range.
abbrev pub TakenExactly : Type 0
TakenExactly = (cores : ℕ) (rows : List Row) → NotRefused (judged cores rows).answer ↔ ListInRange cores rows

-- The limits: 16 cores are taken, 17 are not;
abbrev pub CoresTo16 : Type 0
CoresTo16 =
    (rows : List Row) → RowsInRange rows
    → NotRefused (judged 16 rows).answer × (answer_paper (judged 17 rows).answer ≡ paper 2 0)

-- 32 rows are taken, 33 are not;
abbrev pub RowsTo32 : Type 0
RowsTo32 =
    (cores : ℕ) (rows : List Row) → 1 ≤ cores → cores ≤ 16 → Each RowInRange rows
    → (length rows ≡ 32 → NotRefused (judged cores rows).answer)
    × (length rows ≡ 33 → answer_paper (judged cores rows).answer ≡ paper 1 0)

-- a gap of 1,000,000 ticks is taken, one of 1,000,001 is not.
abbrev pub GapsTo1000000 : Type 0
GapsTo1000000 =
    (cores c d : ℕ) → 1 ≤ cores → cores ≤ 16 → 1 ≤ c → c ≤ d → d ≤ 1000000
    → NotRefused (judged cores (row_of c d 1000000 ∷ [])).answer
    × (answer_paper (judged cores (row_of c d 1000001 ∷ [])).answer ≡ paper 6 1)
