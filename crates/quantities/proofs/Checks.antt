-- Laws of the checks: which check of a row fails first, and which of several lists of checks.
use Rattle.std.specs.Prelude.{Ok, Err}
use Prim.Native.Nat.{ℕ, zero, suc, ◌≤◌, ◌<◌}
use native.Mathlib.Omega.{arith}
use mathlib.Core.Path.{◌≡◌, refl, ap}
use mathlib.Core.Bool.{Bool}
use mathlib.Core.List.{List, [], ◌∷◌, ◌++◌}
use mathlib.Core.Option.{Option, none, some}
use lib.ListN.{length}
use borrow.Author.Tests.{eq-eqb, ne_eqb, lt-ltb, le-ltb, ltb-true, ltb-false}
use Rattle.quantities.specs.Limits.{row_capacity, core_limit, largest_gap}
use Rattle.quantities.specs.Row.{cost, deadline, gap}
use Rattle.laws.specs.Checks.{Check, first_failing}
use Rattle.laws.proofs.Checks.{found_in_first, found_in_second}
use Rattle.laws.proofs.Tests.{not_one}
use Rattle.quantities.specs.Paper.{Paper, paper}
use Rattle.quantities.specs.Checks.{is_last, row_checks, rows_checks, list_checks, room_checks, fault_from}
use Rattle.quantities.specs.Checks.{row_fault, rows_fault, list_fault, lent_fault, SoundAt, checked_of}
use Rattle.quantities.proofs.Rows.{length_rows}
use Rattle.quantities.specs.declared.Row.{Row}
use Rattle.quantities.specs.declared.Fault.{Fault}
use Rattle.quantities.specs.declared.Fault.TheVariants.{WholeList, OneRow}

-- a check that fails at a row's place is a fault of that row
pub fault_at_row : (number place : ℕ) → 0 < place → fault_from (some (paper number place)) ≡ some (OneRow number place)
unfolding fault_from
fault_at_row number zero h = absurd (omega arith)
fault_at_row number (suc p) h = refl

-- a check that fails is some fault
pub fault_is_some : (one : Paper) → fault_from (some one) ≡ none → ⊥
unfolding fault_from
fault_is_some one = at one.number one.place
  where
    at : (number place : ℕ) → fault_from (some (paper number place)) ≡ none → ⊥
    at number zero e = not_one cc
    at number (suc p) e = not_one cc

-- there is a fault exactly where a check fails
pub fault_none : (checks : List (Check Paper)) → fault_from (first_failing checks) ≡ none → first_failing checks ≡ none
fault_none checks e = go (first_failing checks) refl
  where
    go : (found : Option Paper) → first_failing checks ≡ found → first_failing checks ≡ none
    go none q = q
    go (some one) q = absurd (fault_is_some one (rw q at e))

-- The fault of a row by the first of its checks that fails.
module _ (place : ℕ) (last : Bool) (row : Row) (h : 0 < place) where
  pub row_fault_3 : row.c.0 ≡ 0 → row_fault place last row ≡ some (OneRow 3 place)
  unfolding row_checks first_failing
  row_fault_3 no_work = simp (eq-eqb row.c.0 0 no_work) (fault_at_row 3 place h)

  pub row_fault_4 : (row.c.0 ≡ 0 → ⊥) → deadline row < cost row → row_fault place last row ≡ some (OneRow 4 place)
  unfolding row_checks first_failing
  row_fault_4 work late =
      simp (ne_eqb row.c.0 0 work, lt-ltb (deadline row) (cost row) late) (fault_at_row 4 place h)

  pub row_fault_5 : (row.c.0 ≡ 0 → ⊥) → cost row ≤ deadline row → gap row < deadline row
      → row_fault place last row ≡ some (OneRow 5 place)
  unfolding row_checks first_failing
  row_fault_5 work in_time wide =
      simp (ne_eqb row.c.0 0 work, le-ltb (deadline row) (cost row) in_time, lt-ltb (gap row) (deadline row) wide) (fault_at_row 5 place h)

  pub row_fault_6 : (row.c.0 ≡ 0 → ⊥) → cost row ≤ deadline row → deadline row ≤ gap row → largest_gap < gap row
      → row_fault place last row ≡ some (OneRow 6 place)
  unfolding row_checks first_failing
  row_fault_6 work in_time in_gap long =
      simp (ne_eqb row.c.0 0 work, le-ltb (deadline row) (cost row) in_time, le-ltb (gap row) (deadline row) in_gap, lt-ltb largest_gap (gap row) long)
      (fault_at_row 6 place h)

-- A row that is sound where it stands has no fault.
pub row_fault_none : (place : ℕ) (last : Bool) (row : Row) → SoundAt last row → row_fault place last row ≡ none
unfolding row_checks first_failing fault_from
row_fault_none place last row s =
    simp (ne_eqb row.c.0 0 (omega arith), le-ltb (deadline row) (cost row) s.in_time, le-ltb (gap row) (deadline row) s.in_gap, le-ltb largest_gap (gap row) s.short_gap)

pub ruleset row_faults = (row_fault_3, row_fault_4, row_fault_5, row_fault_6, row_fault_none, ltb-true, ltb-false)

-- Of two lists of checks, the first decides where one of its checks fails, else the second does.
pub fault_in_first : (a b : List (Check Paper)) (f : Fault) → fault_from (first_failing a) ≡ some f
    → fault_from (first_failing (a ++ b)) ≡ some f
unfolding fault_from
fault_in_first a b f e = go (first_failing a) refl
  where
    go : (found : Option Paper) → first_failing a ≡ found → fault_from (first_failing (a ++ b)) ≡ some f
    go none q = absurd (not_one (cc (rw (q, fault_from) at e)))
    go (some one) q = rw (found_in_first a b one q) (rw q at e)

pub fault_in_second : (a b : List (Check Paper)) → fault_from (first_failing a) ≡ none
    → fault_from (first_failing (a ++ b)) ≡ fault_from (first_failing b)
fault_in_second a b e = ap fault_from (found_in_second a b (fault_none a e))

-- The rows at a place and below: the first row decides where it has a fault, else the rows below it do.
pub rows_fault_here : (place : ℕ) (row : Row) (rows : List Row) (f : Fault)
    → row_fault place (is_last rows) row ≡ some f → rows_fault place (row ∷ rows) ≡ some f
unfolding rows_checks
rows_fault_here place row rows f = fault_in_first (row_checks place (is_last rows) row) (rows_checks (suc place) rows) f

pub rows_fault_below : (place : ℕ) (row : Row) (rows : List Row)
    → row_fault place (is_last rows) row ≡ none → rows_fault place (row ∷ rows) ≡ rows_fault (suc place) rows
unfolding rows_checks
rows_fault_below place row rows = fault_in_second (row_checks place (is_last rows) row) (rows_checks (suc place) rows)

pub rows_fault_none : (place : ℕ) → rows_fault place [] ≡ none
unfolding rows_checks first_failing fault_from
rows_fault_none place = refl

-- The fault of a list, by the first of its checks that fails.
module _ (cores : ℕ) (rows : List Row) where
  pub list_fault_no_rows : length rows ≡ 0 → list_fault cores rows ≡ some (WholeList 1)
  unfolding list_fault list_checks first_failing fault_from
  list_fault_no_rows e = simp (eq-eqb (length rows) 0 e)

  pub list_fault_many_rows : (length rows ≡ 0 → ⊥) → row_capacity < length rows → list_fault cores rows ≡ some (WholeList 1)
  unfolding list_fault list_checks first_failing fault_from
  list_fault_many_rows some_rows many = simp (ne_eqb (length rows) 0 some_rows, lt-ltb row_capacity (length rows) many)

  pub list_fault_no_cores : (length rows ≡ 0 → ⊥) → length rows ≤ row_capacity → cores ≡ 0 → list_fault cores rows ≡ some (WholeList 2)
  unfolding list_fault list_checks first_failing fault_from
  list_fault_no_cores some_rows few e =
      simp (ne_eqb (length rows) 0 some_rows, le-ltb row_capacity (length rows) few, eq-eqb cores 0 e)

  pub list_fault_many_cores : (length rows ≡ 0 → ⊥) → length rows ≤ row_capacity → (cores ≡ 0 → ⊥) → core_limit < cores → list_fault cores rows ≡ some (WholeList 2)
  unfolding list_fault list_checks first_failing fault_from
  list_fault_many_cores some_rows few some_cores many =
      simp (ne_eqb (length rows) 0 some_rows, le-ltb row_capacity (length rows) few, ne_eqb cores 0 some_cores, lt-ltb core_limit cores many)

  pub list_fault_rows : (length rows ≡ 0 → ⊥) → length rows ≤ row_capacity → (cores ≡ 0 → ⊥) → cores ≤ core_limit → list_fault cores rows ≡ rows_fault 1 rows
  unfolding list_fault list_checks first_failing
  list_fault_rows some_rows few some_cores few_cores =
      simp (ne_eqb (length rows) 0 some_rows, le-ltb row_capacity (length rows) few, ne_eqb cores 0 some_cores, le-ltb core_limit cores few_cores)

pub ruleset list_faults = (list_fault_no_rows, list_fault_many_rows, list_fault_no_cores, list_fault_many_cores, list_fault_rows, length_rows)

-- The fault of a list whose bounds go into a list with this many entries: its own fault comes first, then 7.
module _ (cores entries : ℕ) (rows : List Row) where
  pub lent_fault_list : (f : Fault) → list_fault cores rows ≡ some f → lent_fault cores entries rows ≡ some f
  unfolding lent_fault list_fault
  lent_fault_list f e = fault_in_first (list_checks cores rows) (room_checks entries rows) f e

  pub lent_fault_short : list_fault cores rows ≡ none → entries < length rows
      → lent_fault cores entries rows ≡ some (WholeList 7)
  unfolding lent_fault list_fault room_checks first_failing fault_from
  lent_fault_short e h =
      rw (fault_in_second (list_checks cores rows) (room_checks entries rows) e, lt-ltb entries (length rows) h) refl

  pub lent_fault_room : list_fault cores rows ≡ none → length rows ≤ entries → lent_fault cores entries rows ≡ none
  unfolding lent_fault list_fault room_checks first_failing fault_from
  lent_fault_room e h =
      rw (fault_in_second (list_checks cores rows) (room_checks entries rows) e, le-ltb entries (length rows) h) refl

-- What the code's answer says of the fault.
pub checked_ok : (found : Option Fault) → checked_of found ≡ Ok tt → found ≡ none
unfolding checked_of
checked_ok none e = refl
checked_ok (some f) e = absurd (not_one cc)

pub checked_err : (found : Option Fault) (f : Fault) → checked_of found ≡ Err f → found ≡ some f
unfolding checked_of
checked_err none f e = absurd (not_one cc)
checked_err (some g) f e = cc
