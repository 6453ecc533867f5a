-- What the fault of a list means: the first failing check, said literally, and none exactly for a sound list.
use Prim.Native.Nat.{ℕ, suc}
use native.Mathlib.Omega.{arith}
use mathlib.Core.Path.{◌≡◌, refl, sym, ◌∙◌}
use mathlib.Core.Logic.{◌↔◌}
use mathlib.Core.Bool.{Bool}
use mathlib.Core.List.{List, [], ◌∷◌}
use mathlib.Core.Option.{Option, none, some}
use lib.ListN.{length}
use lib.Dec.{eqb, ltb}
use borrow.Author.Tests.{ltb-false, eqb-false}
use Rattle.laws.proofs.Tests.{or_false, not_one}
use Rattle.laws.proofs.Checks.{none_fails}
use Rattle.quantities.specs.Limits.{row_capacity, core_limit, largest_gap}
use Rattle.quantities.specs.Row.{cost, deadline, gap}
use Rattle.quantities.specs.Checks.{is_last, row_checks, list_checks}
use Rattle.quantities.specs.Checks.{row_fault, rows_fault, list_fault, SoundAt, SoundRows, SoundList}
use Rattle.quantities.specs.declared.Row.{Row}
use Rattle.quantities.specs.declared.Fault.{Fault}
use Rattle.quantities.proofs.Checks.{fault_none, row_fault_none, rows_fault_here, rows_fault_below, rows_fault_none, list_fault_rows}

-- a row without fault is sound where it stands
pub sound_row : (place : ℕ) (last : Bool) (row : Row) → row_fault place last row ≡ none → SoundAt last row
unfolding row_checks
sound_row place last row e =
    let tests = none_fails (row_checks place last row) (fault_none (row_checks place last row) e) in
    record {
      some_work = let n = eqb-false row.c.0 0 tests.0 in omega arith;
      in_time = ltb-false (deadline row) (cost row) tests.1.0;
      in_gap = ltb-false (gap row) (deadline row) tests.1.1.0;
      short_gap = ltb-false largest_gap (gap row) tests.1.1.1.0;
    }

-- rows without fault are sound
pub sound_rows_means : (place : ℕ) (rows : List Row) → (rows_fault place rows ≡ none) ↔ SoundRows rows
sound_rows_means place [] = ((λ e. tt), (λ e. rows_fault_none place))
sound_rows_means place (row ∷ rows) = go (row_fault place (is_last rows) row) refl (sound_rows_means (suc place) rows)
  where
    go : (found : Option Fault) → row_fault place (is_last rows) row ≡ found
        → (rows_fault (suc place) rows ≡ none) ↔ SoundRows rows
        → (rows_fault place (row ∷ rows) ≡ none) ↔ SoundRows (row ∷ rows)
    go none q below =
        let same = rows_fault_below place row rows q in
        ((λ e. (sound_row place (is_last rows) row q, below.0 (sym same ∙ e))), (λ e. same ∙ below.1 e.1))
    go (some f) q below = (
      (λ e. absurd (not_one (cc (rows_fault_here place row rows f q)))),
      (λ e. absurd (not_one (cc (row_fault_none place (is_last rows) row e.0)))),
    )

-- A list has no fault exactly where it is sound.
pub sound_list_means : (cores : ℕ) (rows : List Row) → (list_fault cores rows ≡ none) ↔ SoundList cores rows
unfolding list_fault list_checks
sound_list_means cores rows = (there, back)
  where
    there : list_fault cores rows ≡ none → SoundList cores rows
    there e =
        let tests = none_fails (list_checks cores rows) (fault_none (list_checks cores rows) e) in
        let counts = or_false (eqb (length rows) 0) (ltb row_capacity (length rows)) tests.0 in
        let board = or_false (eqb cores 0) (ltb core_limit cores) tests.1.0 in
        let some_rows = eqb-false (length rows) 0 counts.0 in
        let few_rows = ltb-false row_capacity (length rows) counts.1 in
        let some_cores = eqb-false cores 0 board.0 in
        let few_cores = ltb-false core_limit cores board.1 in
        record {
          some_rows = omega arith;
          few_rows = few_rows;
          some_cores = omega arith;
          few_cores = few_cores;
          sound_rows = (sound_rows_means 1 rows).0 (sym (list_fault_rows cores rows some_rows few_rows some_cores few_cores) ∙ e);
        }

    back : SoundList cores rows → list_fault cores rows ≡ none
    back s =
        list_fault_rows cores rows (omega arith) s.few_rows (omega arith) s.few_cores ∙ (sound_rows_means 1 rows).1 s.sound_rows
