-- check_rows answers the first fault of the table's rows: the row at an index stops the loop, or those below decide.
use Rattle.std.proofs.Common.{rules}
use Rattle.std.specs.Prelude.{Ok, Err}
use Prim.Native.Nat.{ℕ, suc, ◌+◌, ◌<◌}
use native.Mathlib.Numerals.{add-one}
use native.Mathlib.Omega.{arith}
use mathlib.Core.Path.{◌≡◌, sym, ◌∙◌}
use mathlib.Core.List.{List}
use mathlib.Core.Option.{none, some}
use lib.Dec.{eqb}
use lib.ListN.{length, drop, get_or, take, length-take, drop_of_length-le}
use lib.Seq.{drop-cons}
use Rattle.quantities.specs.Table.{rows_of}
use Rattle.quantities.specs.Checks.{is_last, row_fault, rows_fault, checked_of}
use Rattle.quantities.specs.declared.Row.{Row}
use Rattle.quantities.specs.declared.Fault.{Fault}
use Rattle.quantities.proofs.Checks.{rows_fault_here, rows_fault_below, rows_fault_none, checked_ok, checked_err}
use Rattle.quantities.proofs.Rows.{rows_kept}
use Rattle.quantities.proofs.SoundRows.{is_last_lem}
use Rattle.quantities.proofs.check_rows.Goals as goal

-- One turn at the row with index i, which is the last where its place is the number of rows.
module _ (rows : List Row) (i : ℕ) (row : Row) (count : ℕ) (h : i < length rows) (whole : count ≡ length rows) where
  row_here : row_fault (i + 1) (eqb (i + 1) count) (get_or rows i row)
      ≡ row_fault (suc i) (is_last (drop (suc i) rows)) (get_or rows i row)
  row_here = rw (add-one, is_last_lem rows i h, whole)

  stops : (f : Fault) → checked_of (row_fault (i + 1) (eqb (i + 1) count) (get_or rows i row)) ≡ Err f
      → rows_fault (suc i) (drop i rows) ≡ some f
  stops f e =
      rw (drop-cons rows i row h)
      (rows_fault_here (suc i) (get_or rows i row) (drop (suc i) rows) f (sym row_here ∙ checked_err _ f e))

  goes_on : checked_of (row_fault (i + 1) (eqb (i + 1) count) (get_or rows i row)) ≡ Ok tt
      → rows_fault (suc i) (drop i rows) ≡ rows_fault (suc (i + 1)) (drop (i + 1) rows)
  goes_on e =
      rw (add-one, drop-cons rows i row h)
      (rows_fault_below (suc i) (get_or rows i row) (drop (suc i) rows) (sym row_here ∙ checked_ok _ e))

pub returns-in_err-check_row : goal.returns-in_err-check_row
unfolding checked_of
returns-in_err-check_row c =
    let table = c.args.table in
    let e = length-take table.count table.rows in
    let whole : table.count ≡ length (take table.count table.rows) = omega arith in
    let fault : rows_fault 1 (rows_of table) ≡ some c.in_err-check_row.field-0.0 =
    rw (rows_kept table (omega arith))
    (c.loop-i.invariant ∙ stops (take table.count table.rows) c.loop-i.i _ table.count (omega arith) whole _ (sym c.check_row.ensures ∙ c.in_err-check_row.was)) in
    rw fault (search rules)

pub loop-i-preserved : goal.loop-i-preserved
loop-i-preserved c =
    let table = c.args.table in
    let e = length-take table.count table.rows in
    let whole : table.count ≡ length (take table.count table.rows) = omega arith in
    c.loop-i.invariant ∙ goes_on (take table.count table.rows) c.loop-i.i _ table.count (omega arith) whole (sym c.check_row.ensures ∙ c.in_ok-check_row.was)

pub returns : goal.returns
unfolding checked_of
returns c =
    let table = c.args.table in
    let e = length-take table.count table.rows in
    let fault : rows_fault 1 (rows_of table) ≡ none =
    rw (rows_kept table (omega arith))
    (c.loop-i.invariant ∙ rw (drop_of_length-le (take table.count table.rows) {i = c.loop-i.i} (omega arith)) (rows_fault_none (suc c.loop-i.i))) in
    rw fault
