-- A tick as the code's loop makes it: what holds before each turn, that a turn keeps it, and what it gives at the end.
use Prim.Native.Nat.{ℕ, suc, ◌+◌, ◌-◌, ◌≤◌, ◌<◌}
use native.Mathlib.Nat.{sub-zero}
use native.Mathlib.Numerals.{add-one}
use native.Mathlib.Omega.{arith}
use mathlib.Core.Path.{◌≡◌, sym, ◌∙◌}
use mathlib.Core.List.{List, [], ◌++◌}
use lib.ListN.{length, get_or, take, drop, set, length-set}
use Rattle.std.specs.Prelude.{Ok}
use Rattle.quantities.specs.Limits.{row_capacity}
use Rattle.quantities.proofs.Rows.{length_rows}
use Rattle.bench.specs.declared.RowState.{RowState}
use Rattle.bench.specs.declared.Bench.{Bench}
use Rattle.bench.specs.declared.Finish.{Finish}
use Rattle.bench.specs.declared.Finishes.{Finishes}
use Rattle.bench.specs.declared.Turn.{Turn}
use Rattle.bench.specs.State.{idle}
use Rattle.bench.specs.Serving.{finish_of, turn_of}
use Rattle.bench.specs.Ended.{finishes_of, noted}
use Rattle.bench.specs.Step.{later, served, moved, taken, ticked_of}
use Rattle.bench.proofs.Ended.{noted_all, noted_count}
use Rattle.bench.proofs.Serving.{served_states, ended_polls, served_turn, noted_turn, served_end, noted_end, ended_all}

-- Before the turn at index i: with this many cores free and these polls noted, serving the rest makes the whole tick.
pub record Serves (b : Bench) (states : List RowState) (free : ℕ) (f : Finishes) (i : ℕ) : Type 0 where
  pub within : i ≤ b.table.count
  pub long : length states ≡ row_capacity
  pub room : f.count ≤ i
  pub work : take i states ++ served_states free (b.table.count - i) (drop i states)
      ≡ served_states b.cores b.table.count b.states
  pub polls : noted_all f (ended_polls (b.now.0 + 1) (suc i) free (b.table.count - i) (drop i states))
      ≡ noted_all (finishes_of []) (ended_polls (b.now.0 + 1) 1 b.cores b.table.count b.states)

pub serves_first : (b : Bench) (f : Finishes) → f ≡ finishes_of [] → length b.states ≡ row_capacity → Serves b b.states b.cores f 0
unfolding finishes_of
serves_first b f e l =
    record {
      within = omega arith;
      long = l;
      room = rw e (omega arith);
      work = rw (sub-zero b.table.count);
      polls = rw (e, sub-zero b.table.count);
    }

-- a turn with the row's part t and the poll p of the row
pub serves_next : (b : Bench) (states : List RowState) (free : ℕ) (f : Finishes) (i : ℕ) → Serves b states free f i → i < b.table.count → i < row_capacity
    → (t : Turn) → t ≡ turn_of free (get_or states i idle) → (p : Finish) → p ≡ finish_of (b.now.0 + 1) (i + 1) (get_or states i idle)
    → (g : Finishes) → g ≡ noted f t.ends p → Serves b (set states i t.state) t.free g (i + 1)
serves_next b states free f i s h h' t et p ep g eg =
    let l : i < length states = omega arith in
    record {
      within = omega arith;
      long = rw length-set s.long;
      room = rw eg (omega (arith, noted_count f t.ends p));
      work = rw et (sym (served_turn b.table.count free i states h l) ∙ s.work);
      polls = rw (eg, ep, et) (sym (noted_turn b.table.count free i states h l (b.now.0 + 1) f) ∙ s.polls);
    }

-- past the last row the tick is made
pub serves_last : (b : Bench) (states : List RowState) (free : ℕ) (f : Finishes) (i : ℕ) → Serves b states free f i → b.table.count ≤ i → b.table.count ≤ row_capacity
    → ticked_of (taken b) ≡ record { outcome = Ok tt; finishes = f; bench = later b states }
unfolding ticked_of taken moved served
serves_last b states free f i s h h' =
    let n : b.table.count - i ≡ 0 = omega arith in
    let w : states ≡ served_states b.cores b.table.count b.states
    = sym (served_end free i states) ∙ (rw n at s.work) in
    let p : f ≡ finishes_of (ended_polls (b.now.0 + 1) 1 b.cores b.table.count b.states)
    = sym (noted_end (b.now.0 + 1) (suc i) free (drop i states) f) ∙ (rw n at s.polls) ∙ ended_all (b.now.0 + 1) b.cores b.table.count b.states h' in
    rw (w, p, length_rows b.table, add-one)
