-- A record is broken, so that 29 is due, exactly where one of the six sentences of document 01 holds of it.
use Prim.Native.Nat.{ℕ, zero, suc, ◌-◌, ◌<◌}
use native.Mathlib.Omega.{arith}
use mathlib.Core.Path.{◌≡◌, refl, sym, subst}
use mathlib.Core.Logic.{◌⊎◌, inl, inr}
use mathlib.Core.Bool.{Bool, true, false, ◌||◌}
use mathlib.Core.List.{List, [], ◌∷◌}
use mathlib.Core.Option.{Option as Maybe, none, some}
use lib.Dec.{ltb}
use lib.ListN.{length, get_or}
use borrow.Author.Tests.{ltb-true, lt-ltb, le-ltb}
use Rattle.std.specs.Prelude.{Option, None, Some}
use Rattle.quantities.specs.Paper.{Paper}
use Rattle.quantities.specs.declared.Row.{Row}
use Rattle.quantities.specs.Row.{cost, no_row}
use Rattle.laws.specs.Checks.{first_failing, FirstFailing}
use Rattle.quantities.specs.Checks.{fault_from, list_fault, list_checks}
use Rattle.laws.proofs.Checks.{first_failing_lem}
use Rattle.laws.proofs.Tests.{not_one}
use Rattle.quantities.proofs.Paper.{turned_away}
use Rattle.quantities.specs.declared.Instant.{Instant}
use Rattle.bench.specs.declared.RowState.{RowState}
use Rattle.bench.specs.declared.Bench.{Bench}
use Rattle.bench.specs.State.{idle, last_broken, row_broken, rows_broken, is_fault, broken}
use Rattle.bench.proofs.State.{broken_table}
use Rattle.rowpages.specs.Lists.{list_order}
use Rattle.benchpages.specs.Calls.{RecordBroken, faulty_table, late_instant, released_later}
use Rattle.benchpages.specs.Calls.{demand_above_cost, more_left_than_demand, work_never_released}
use Rattle.benchpages.specs.Calls.{rows_on, row_on, state_on, OnBoard, BrokenExactly}
use Rattle.rowpages.proofs.Lists.{list_order_lem}

or_true : (a b : Bool) → (a || b) ≡ true → (a ≡ true) ⊎ (b ≡ true)
or_true true b e = inl refl
or_true false b e = inr e

or_right : (a b : Bool) → b ≡ true → (a || b) ≡ true
or_right true b e = refl
or_right false b e = e

-- A row whose state breaks the record, by its index.
record BrokenRow (now : ℕ) (rows : List Row) (states : List RowState) : Type 0 where
  index : ℕ
  within : index < length rows
  row_broken_holds : row_broken now (get_or rows index no_row) (get_or states index idle) ≡ true

broken_row : (now : ℕ) (rows : List Row) (states : List RowState) → rows_broken now rows states ≡ true
    → BrokenRow now rows states
unfolding rows_broken
broken_row now [] states e = absurd (not_one cc)
broken_row now (row ∷ rest) [] e = absurd (not_one cc)
broken_row now (row ∷ rest) (state ∷ states) e =
    go (or_true (row_broken now row state) (rows_broken now rest states) e) (broken_row now rest states)
  where
    go : (row_broken now row state ≡ true) ⊎ (rows_broken now rest states ≡ true)
        → (rows_broken now rest states ≡ true → BrokenRow now rest states)
        → BrokenRow now (row ∷ rest) (state ∷ states)
    go (inl here) below = record { index = 0; within = omega arith; row_broken_holds = here }
    go (inr lower) below =
        let found = below lower in
        record {
          index = suc found.index;
          within = omega (arith, found.within);
          row_broken_holds = found.row_broken_holds;
        }

-- a row never released, with no demand and no work, does not
idle_whole : (now : ℕ) (row : Row) → row_broken now row idle ≡ false
unfolding row_broken last_broken
idle_whole now row = rw (le-ltb (cost row) 0 (omega arith))

row_breaks : (now : ℕ) (rows : List Row) (states : List RowState) (i : ℕ) → i < length rows
    → row_broken now (get_or rows i no_row) (get_or states i idle) ≡ true → rows_broken now rows states ≡ true
unfolding rows_broken
row_breaks now [] states i h e = absurd (omega arith)
row_breaks now (row ∷ rest) [] i h e =
    absurd (not_one (cc (idle_whole now (get_or (row ∷ rest) i no_row))))
row_breaks now (row ∷ rest) (state ∷ states) zero h e = rw e
row_breaks now (row ∷ rest) (state ∷ states) (suc i) h e =
    or_right (row_broken now row state) (rows_broken now rest states)
    (row_breaks now rest states i (omega arith) e)

-- A record is broken by its table, by its instant, or by one of its rows.
abbrev faulty : Bench → Bool
faulty b = is_fault (list_fault b.cores (rows_on b))

abbrev late : Bench → Bool
late b = ltb 1000000000 b.now.0

abbrev rows_broken_lem : Bench → Bool
rows_broken_lem b = rows_broken b.now.0 (rows_on b) b.states

table_breaks : (b : Bench) → faulty b ≡ true → RecordBroken b
unfolding is_fault list_fault fault_from
table_breaks b e = go (first_failing (list_checks b.cores (rows_on b))) refl
  where
    go : (found : Maybe Paper) → first_failing (list_checks b.cores (rows_on b)) ≡ found → RecordBroken b
    go none q = absurd (not_one (cc (rw (q, fault_from, is_fault) at e)))
    go (some one) q =
        let first = first_failing_lem (list_checks b.cores (rows_on b)) one q in
        let written_out = sym (list_order_lem b.cores (rows_on b)) in
        faulty_table one (subst (λ checks. FirstFailing checks one) written_out first)

table_test : (b : Bench) (one : Paper) → FirstFailing (list_order b.cores (rows_on b)) one → broken b ≡ true
unfolding list_fault
table_test b one first =
    let same = subst (λ checks. FirstFailing checks one) (list_order_lem b.cores (rows_on b)) first in
    let turned = turned_away (list_checks b.cores (rows_on b)) one same in
    broken_table b turned.fault turned.is_fault_holds

late_test : (b : Bench) → 1000000000 < b.now.0 → broken b ≡ true
unfolding broken
late_test b h = or_right (faulty b) (late b || rows_broken_lem b) (rw (lt-ltb 1000000000 b.now.0 h))

rows_test : (b : Bench) → rows_broken_lem b ≡ true → broken b ≡ true
unfolding broken
rows_test b e = or_right (faulty b) (late b || rows_broken_lem b) (or_right (late b) (rows_broken_lem b) e)

-- One row: the sentences about it, and the test of its state.
module _ (b : Bench) (place : ℕ) (on : OnBoard b place) where
  abbrev state : RowState
  state = state_on b place

  abbrev last_bad : Option Instant → Bool
  last_bad last = last_broken b.now.0 last state.left.0

  abbrev demand_above : Bool
  demand_above = ltb (row_on b place).c.0 state.demand.0

  abbrev left_above : Bool
  left_above = ltb state.demand.0 state.left.0

  last_breaks : (last : Option Instant) → state.last ≡ last → last_bad last ≡ true → RecordBroken b
  unfolding last_broken
  last_breaks None q e =
      let h = ltb-true 0 state.left.0 e in work_never_released place on q (omega arith)
  last_breaks (Some at) q e =
      let h = ltb-true b.now.0 at.0 e in released_later place at on q (omega arith)

  demand_breaks : (demand_above ≡ true) ⊎ (left_above ≡ true) → RecordBroken b
  demand_breaks (inl e) =
      let h = ltb-true (row_on b place).c.0 state.demand.0 e in demand_above_cost place on (omega arith)
  demand_breaks (inr e) =
      let h = ltb-true state.demand.0 state.left.0 e in more_left_than_demand place on (omega arith)

  state_breaks : row_broken b.now.0 (row_on b place) state ≡ true → RecordBroken b
  unfolding row_broken
  state_breaks e = go (or_true (last_bad state.last) (demand_above || left_above) e)
    where
      go : (last_bad state.last ≡ true) ⊎ ((demand_above || left_above) ≡ true) → RecordBroken b
      go (inl e) = last_breaks state.last refl e
      go (inr e) = demand_breaks (or_true demand_above left_above e)

  state_test : row_broken b.now.0 (row_on b place) state ≡ true → broken b ≡ true
  state_test e =
      let within : place - 1 < length (rows_on b) = omega (arith, on.first, on.last) in
      rows_test b (row_breaks b.now.0 (rows_on b) b.states (place - 1) within e)

  last_test : last_bad state.last ≡ true → broken b ≡ true
  unfolding row_broken
  last_test e = state_test (rw e)

  demand_test : (demand_above || left_above) ≡ true → broken b ≡ true
  unfolding row_broken
  demand_test e = state_test (or_right (last_bad state.last) (demand_above || left_above) e)

rows_break : (b : Bench) → rows_broken_lem b ≡ true → RecordBroken b
rows_break b e =
    let found = broken_row b.now.0 (rows_on b) b.states e in
    let here : suc found.index - 1 ≡ found.index = omega arith in
    state_breaks b (suc found.index) (record { first = omega arith; last = found.within })
    (rw here found.row_broken_holds)

pub broken_breaks : (b : Bench) → broken b ≡ true → RecordBroken b
unfolding broken
broken_breaks b e = go (or_true (faulty b) (late b || rows_broken_lem b) e)
  where
    later : (late b ≡ true) ⊎ (rows_broken_lem b ≡ true) → RecordBroken b
    later (inl e) = let h = ltb-true 1000000000 b.now.0 e in late_instant (omega arith)
    later (inr e) = rows_break b e

    go : (faulty b ≡ true) ⊎ ((late b || rows_broken_lem b) ≡ true) → RecordBroken b
    go (inl e) = table_breaks b e
    go (inr e) = later (or_true (late b) (rows_broken_lem b) e)

pub breaks_broken : (b : Bench) → RecordBroken b → broken b ≡ true
unfolding last_broken
breaks_broken b (faulty_table one first) = table_test b one first
breaks_broken b (late_instant h) = late_test b (omega arith)
breaks_broken b (released_later place at on q h) =
    last_test b place on (rw (q, last_broken) (lt-ltb b.now.0 at.0 (omega arith)))
breaks_broken b (demand_above_cost place on h) =
    demand_test b place on (rw (lt-ltb (row_on b place).c.0 (state_on b place).demand.0 (omega arith)))
breaks_broken b (more_left_than_demand place on h) =
    let above = lt-ltb (state_on b place).demand.0 (state_on b place).left.0 (omega arith) in
    demand_test b place on (or_right (demand_above b place on) (left_above b place on) above)
breaks_broken b (work_never_released place on q h) =
    last_test b place on (rw (q, last_broken) (lt-ltb 0 (state_on b place).left.0 (omega arith)))

pub broken_exactly : BrokenExactly
broken_exactly b = (broken_breaks b, breaks_broken b)

pub unbroken : (b : Bench) → (RecordBroken b → ⊥) → broken b ≡ false
unbroken b whole = go (broken b) refl
  where
    go : (t : Bool) → broken b ≡ t → broken b ≡ false
    go true q = absurd (whole (broken_breaks b q))
    go false q = q
