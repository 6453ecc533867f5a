-- Laws of a broken record: which row's state breaks it, looked for from the top.
use Prim.Native.Nat.{ℕ, ◌≤◌, ◌<◌}
use native.Mathlib.Decide.{dec_le}
use native.Mathlib.Omega.{arith}
use mathlib.Core.Path.{◌≡◌, refl, ap}
use mathlib.Core.Bool.{true, false, ◌||◌}
use mathlib.Core.List.{List, [], ◌∷◌}
use mathlib.Core.Option.{Option, none, some}
use lib.Dec.{ltb}
use borrow.Author.Tests.{lt-ltb, le-ltb, ltb-false}
use Rattle.laws.proofs.Tests.{or_false, not_one}
use Rattle.quantities.specs.Limits.{row_capacity}
use Rattle.quantities.specs.Table.{rows_of}
use Rattle.quantities.specs.Checks.{list_fault}
use Rattle.std.specs.List.{list_any, zip}
use Rattle.quantities.specs.declared.Row.{Row}
use Rattle.quantities.specs.declared.Fault.{Fault}
use Rattle.quantities.specs.declared.Table.{Table}
use Rattle.quantities.proofs.Rows.{length_rows}
use Rattle.quantities.proofs.Checks.{list_fault_many_rows, checked_ok, checked_err}
use Rattle.bench.specs.declared.RowState.{RowState}
use Rattle.bench.specs.declared.Bench.{Bench}
use Rattle.bench.specs.State.{last_instant, rows, row_broken, rows_broken, is_fault, broken}

-- of the rows and the states beside them, some pair's state breaks the record
pub rows_broken_any : (now : ℕ) (rows : List Row) (states : List RowState)
    → list_any (λ (at : Row × RowState). row_broken now at.0 at.1) (zip rows states) ≡ rows_broken now rows states
unfolding rows_broken
rows_broken_any now [] states = refl
rows_broken_any now (row ∷ rest) [] = refl
rows_broken_any now (row ∷ rest) (state ∷ states) = ap (◌||◌ (row_broken now row state)) (rows_broken_any now rest states)

-- a table without fault has at most as many rows as it can keep
pub sound_fits : (cores : ℕ) (table : Table) → list_fault cores (rows_of table) ≡ none → table.count ≤ row_capacity
sound_fits cores table e = go (dec_le table.count row_capacity)
  where
    go : Dec (table.count ≤ row_capacity) → table.count ≤ row_capacity
    go (yes h) = h
    go (no h) =
        let l = length_rows table in
        let f = list_fault_many_rows cores (rows_of table) (omega arith) (omega arith) in
        absurd (not_one cc)

-- A record that is not broken: its table has no fault, its instant is not past the clock's end, and its rows are in order.
pub record Whole (b : Bench) : Type 0 where
  pub sound : list_fault b.cores (rows b) ≡ none
  pub in_time : b.now.0 ≤ last_instant
  pub in_order : rows_broken b.now.0 (rows b) b.states ≡ false

no_fault : (found : Option Fault) → is_fault found ≡ false → found ≡ none
unfolding is_fault
no_fault none e = refl
no_fault (some fault) e = absurd (not_one cc)

pub whole_of : (b : Bench) → broken b ≡ false → Whole b
unfolding broken
whole_of b e =
    let (f, e1) = or_false (is_fault (list_fault b.cores (rows b))) (ltb last_instant b.now.0 || rows_broken b.now.0 (rows b) b.states) e in
    let (t, r) = or_false (ltb last_instant b.now.0) (rows_broken b.now.0 (rows b) b.states) e1 in
    record { sound = no_fault (list_fault b.cores (rows b)) f; in_time = ltb-false last_instant b.now.0 t; in_order = r }

pub whole_unbroken : (b : Bench) → Whole b → broken b ≡ false
unfolding broken is_fault
whole_unbroken b w = rw (w.sound, le-ltb last_instant b.now.0 w.in_time, w.in_order)

-- where it is not broken, the table's rows are all kept
pub few_rows : (b : Bench) → broken b ≡ false → b.table.count ≤ row_capacity
few_rows b whole = sound_fits b.cores b.table (whole_of b whole).sound

-- Whether the record is broken, by the cases of the code.
module _ (b : Bench) where
  pub broken_table : (fault : Fault) → list_fault b.cores (rows b) ≡ some fault → broken b ≡ true
  unfolding broken is_fault
  broken_table fault e = rw e

  pub broken_clock : list_fault b.cores (rows b) ≡ none → last_instant < b.now.0 → broken b ≡ true
  unfolding broken is_fault
  broken_clock e h = rw (e, lt-ltb last_instant b.now.0 h)

  pub broken_rows : list_fault b.cores (rows b) ≡ none → b.now.0 ≤ last_instant → broken b ≡ rows_broken b.now.0 (rows b) b.states
  unfolding broken is_fault
  broken_rows e h = rw (e, le-ltb last_instant b.now.0 h)

pub ruleset broken_cases = (checked_ok, checked_err, sound_fits, broken_table, broken_clock, broken_rows)
