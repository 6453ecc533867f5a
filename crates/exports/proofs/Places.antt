-- The place of an answer is small: at most one past the rows, and a loaded table counts at most one row too many.
use Prim.Native.Nat.{ℕ, zero, suc, ◌+◌, ◌≤◌}
use native.Mathlib.Omega.{arith}
use mathlib.Core.Path.{◌≡◌, refl}
use mathlib.Core.List.{List, [], ◌∷◌, ◌++◌}
use mathlib.Core.Option.{Option, none, some}
use lib.ListN.{length}
use Rattle.laws.specs.Each.{Each}
use Rattle.laws.specs.Checks.{Check, first_failing}
use Rattle.laws.proofs.Lists.{each_append}
use Rattle.laws.proofs.Checks.{told_has, first_found}
use Rattle.quantities.proofs.Rows.{with_row_few}
use Rattle.windows.proofs.Bound.{bounds_few}
use Rattle.quantities.specs.Limits.{row_capacity}
use Rattle.quantities.specs.Table.{empty_table}
use Rattle.quantities.specs.Checks.{row_checks, rows_checks, list_checks, room_checks, fault_from, lent_fault}
use Rattle.quantities.specs.declared.Row.{Row}
use Rattle.quantities.specs.declared.Fault.{Fault}
use Rattle.windows.specs.Bound.{bounds_below}
use Rattle.quantities.specs.Paper.{Paper, fault_paper}
use Rattle.quantities.proofs.Paper.{fault_first}
use Rattle.windows.specs.Answer.{judged_after, judged_into, answer_paper}
use Rattle.windows.specs.declared.Answer.TheVariants.{Refused}
use Rattle.windows.proofs.Judgement.{verdict_place}
use Rattle.windows.specs.Judgement.{row_of_index}
use Rattle.lentrows.specs.Loaded.{loaded}

-- checks that speak of places up to n
abbrev PlacesTo : ℕ → List (Check Paper) → Type 0
PlacesTo n = Each (λ one. one.told.place ≤ n)

rows_places : (n place : ℕ) (rows : List Row) → place + length rows ≤ suc n → PlacesTo n (rows_checks place rows)
unfolding rows_checks row_checks
rows_places n place [] h = tt
rows_places n place (row ∷ rows) h =
    let here : place ≤ n = omega arith in
    (here, (here, (here, (here, rows_places n (suc place) rows (omega arith)))))

-- the fault of such checks has such a place
fault_place : (n : ℕ) (checks : List (Check Paper)) (fault : Fault) → PlacesTo n checks
    → fault_from (first_failing checks) ≡ some fault → (answer_paper (Refused fault)).place ≤ n
unfolding answer_paper
fault_place n checks fault all e =
    told_has (λ one. one.place ≤ n) (fault_paper fault) checks all
    (first_found checks (fault_paper fault) (fault_first checks fault e))

lent_places : (n cores entries : ℕ) (rows : List Row) → length rows ≤ n
    → PlacesTo n (list_checks cores rows ++ room_checks entries rows)
unfolding list_checks room_checks
lent_places n cores entries rows h =
    each_append (λ (one : Check Paper). one.told.place ≤ n) (list_checks cores rows) (room_checks entries rows)
    (omega arith, (omega arith, rows_places n 1 rows (omega arith)))
    (omega arith, tt)

-- The place of an answer is at most one past the rows.
pub into_place : (cores entries : ℕ) (rows : List Row)
    → (answer_paper (judged_into cores entries rows).answer).place ≤ suc (length rows)
unfolding judged_into judged_after lent_fault
into_place cores entries rows = go (lent_fault cores entries rows) refl
  where
    go : (found : Option Fault) → lent_fault cores entries rows ≡ found
        → (answer_paper (judged_after found cores rows).answer).place ≤ suc (length rows)
    go (some fault) e =
        fault_place (suc (length rows)) (list_checks cores rows ++ room_checks entries rows) fault
        (lent_places (suc (length rows)) cores entries rows (omega arith)) e
    go none e = omega (arith, verdict_place (length rows) (bounds_below cores [] rows), bounds_few cores [] rows)

-- A loaded table counts at most one row too many.
pub loaded_count : (n : ℕ) (rows : List Row) → (loaded n rows).count ≤ suc row_capacity
unfolding loaded empty_table
loaded_count zero rows = omega arith
loaded_count (suc n) rows = with_row_few (loaded n rows) (row_of_index rows n)
