-- RowJudged::taken_above keeps, for each number of carriers, the most that the rows passed take, and counts those with
-- room. The last row passed is the nearest, so it stands first in the list of the rows above.
use Rattle.std.specs.Prelude.{Option, None, Some}
use Rattle.std.specs.declared.slice.Iter.{Iter}
use Rattle.std.specs.declared.iter.Zip.{Zip}
use Rattle.std.specs.Iterator.{Yields}
use Rattle.std.specs.Iterator.Adapters.{zip_first, zip_second}
use Rattle.std.specs.Slice.Iter.{iter_rest}
use Rattle.std.proofs.iter.Yields.{fronts}
use Rattle.std.proofs.lemmas.Iterator.{zips}
use denote.Ref.{Bor}
use Prim.Native.Nat.{ℕ, zero, suc, ◌+◌, ◌-◌, ◌≤◌, ◌<◌}
use Rattle.std.proofs.Common.{rules}
use native.Mathlib.Omega.{arith}
use native.Mathlib.Numerals.{add-one}
use mathlib.Core.Path.{◌≡◌, refl, sym, subst, ap₂, ◌∙◌}
use mathlib.Core.List.{List, ◌∷◌}
use lib.ListN.{length, get_or, take, length-take, length-append}
use lib.Seq.{get_or-take}
use Rattle.std.proofs.lemmas.Slice.Zip.{zip_turn, zip_end}
use Rattle.laws.proofs.Lists.{get_d_repeated}
use Rattle.quantities.specs.Limits.{core_limit}
use Rattle.quantities.specs.Table.{rows_of}
use Rattle.quantities.specs.Row.{no_row}
use Rattle.quantities.specs.Lengths.{numbers, ticks}
use Rattle.quantities.specs.declared.Row.{Row}
use Rattle.quantities.specs.declared.Table.{Table}
use Rattle.quantities.specs.declared.Ticks.{Ticks}
use Rattle.windows.specs.Choice.{Bounded, bounded, InRange, Load, load, loads, most}
use Rattle.windows.specs.Jump.{room, rooms, roomy, least_room}
use Rattle.windows.specs.Judgement.{row_of_index}
use Rattle.windows.proofs.Room.{stride_in, stride_out}
use Rattle.analysis.specs.Engine.{largest_window, ShortGap, above, raised_at, count_with, least_with, LoadIs, TakenIs}
use Rattle.analysis.proofs.Above.{entry, entry_above, each_entry}
use Rattle.analysis.proofs.Small.{few_above, most_small, load_small}
use Rattle.analysis.proofs.Tally.{count_le, count_row, least_row}
use Rattle.analysis.proofs.RowJudged.taken_above.Invariants.{In}
use Rattle.analysis.proofs.RowJudged.taken_above.Goals as goal

-- one row more: raising the mosts of the rows passed gives the mosts with that row
raised_is_most : (ls : List Load) (l : Load) (mosts : List ℕ) (carriers : ℕ)
    → ((m : ℕ) → m ≤ carriers → get_or mosts m 0 ≡ most ls m)
    → (m : ℕ) → m ≤ carriers → raised_at mosts l.without l.carrying m ≡ most (l ∷ ls) m
unfolding raised_at most
raised_is_most ls l mosts carriers is zero h = rw (is 0 h)
raised_is_most ls l mosts carriers is (suc m) h = rw (is (suc m) h, is m (omega arith))

-- the row and the bound that a turn is about are an entry of the table and one of the bounds
here : (table : Table) (bounds : List Ticks) (k : ℕ) (xs : List (Bor Row × Bor Ticks)) (s t u : Zip (Iter Row) (Iter Ticks))
    (r : Option (Bor Row × Bor Ticks)) (row : Bor Row) (bound : Bor Ticks)
    → iter_rest (zip_first s) ≡ take k table.rows → iter_rest (zip_second s) ≡ take k bounds
    → Yields (zips fronts fronts) s xs t → r ≡ Some (row, bound) → zips fronts fronts t r u
    → (length xs < k) × (bounded row.now bound.now.0 ≡ entry table bounds (length xs))
here table bounds k xs s t u r row bound first second yielded is steps =
    let turn = zip_turn (take k table.rows) (take k bounds) xs s t u r first second yielded (row, bound) is steps in
    let low : length xs < k = omega (arith, turn.0, length-take k table.rows) in
    (low, rw (turn.2 no_row, turn.3 (ticks 0), get_or-take, get_or-take) refl)

-- and after the last there are as many turns as rows above
all : (table : Table) (bounds : List Ticks) (k : ℕ) (xs : List (Bor Row × Bor Ticks)) (s t u : Zip (Iter Row) (Iter Ticks))
    (r : Option (Bor Row × Bor Ticks)) → k ≤ length table.rows → k ≤ length bounds
    → iter_rest (zip_first s) ≡ take k table.rows → iter_rest (zip_second s) ≡ take k bounds
    → Yields (zips fronts fronts) s xs t → r ≡ None → zips fronts fronts t r u → length xs ≡ k
all table bounds k xs s t u r rows_stand bounds_stand first second yielded is steps =
    let end = zip_end (take k table.rows) (take k bounds) xs s t u r first second yielded is steps in
    omega (arith, end, length-take k table.rows, length-take k bounds)

-- One turn, at the row with index i, whose load the code took.
module _ (cores : ℕ) (table : Table) (bounds : List Ticks) (k own x : ℕ) (mosts : List ℕ) (count least i : ℕ)
    (within : k ≤ table.count) (h : i < k) (inv : In cores table bounds k own x mosts count least i)
    (w c r : ℕ) (taken : LoadIs own x (entry table bounds i) w c r) where
  -- it is the next of the rows above
  next : LoadIs own x (bounded (row_of_index (rows_of table) i) (get_or (numbers bounds) i 0)) w c r
  next = subst (λ (b : Bounded). LoadIs own x b w c r) (entry_above table bounds i (omega arith)) taken

  turn : (raised : List ℕ) (count' least' : ℕ) → length raised ≡ core_limit
      → ((m : ℕ) → m ≤ cores - 1 → get_or raised m 0 ≡ raised_at mosts w c m)
      → count' ≡ count_with r count → least' ≡ least_with r least
      → In cores table bounds k own x raised count' least' (i + 1)
  turn raised count' least' long up p q =
      let b = bounded (row_of_index (rows_of table) i) (get_or (numbers bounds) i 0) in
      let passed = above table bounds i in
      rw (add-one i)
      (record {
        le = omega arith;
        few = omega (arith, p, count_le r count);
        long = long;
        mostly = λ m low.
            up m low ∙ rw (next.without, next.carrying) (raised_is_most (loads own x passed) (load own x b) mosts (cores - 1) inv.mostly m low);
        counted = p ∙ ap₂ count_with next.roominess inv.counted ∙ sym (count_row (room own x b) (rooms own x passed));
        smallest =
            q ∙ ap₂ least_with next.roominess inv.smallest
            ∙ sym (least_row largest_window (room own x b) (rooms own x passed));
      })

-- After the last row.
module _ (cores : ℕ) (table : Table) (bounds : List Ticks) (k own x : ℕ) (mosts : List ℕ) (count least i : ℕ)
    (some_cores : 0 < cores) (over : i ≡ k) (inv : In cores table bounds k own x mosts count least i) where
  few_roomy : count ≤ cores - 1 → TakenIs cores own x (above table bounds k) (get_or mosts (cores - 1) 0) 0
  few_roomy few =
      let counted = rw over at inv.counted in
      record {
        mostly = rw over at (inv.mostly (cores - 1) (omega arith));
        striding = sym (stride_out cores largest_window (rooms own x (above table bounds k)) (omega arith));
      }

  enough_roomy : cores - 1 < count → TakenIs cores own x (above table bounds k) (get_or mosts (cores - 1) 0) least
  enough_roomy enough =
      let counted = rw over at inv.counted in
      let smallest = rw over at inv.smallest in
      record {
        mostly = rw over at (inv.mostly (cores - 1) (omega arith));
        striding = smallest ∙ sym (stride_in cores largest_window (rooms own x (above table bounds k)) (omega arith));
      }

pub loop-row-init : goal.loop-row-init
unfolding most roomy least_room
loop-row-init c =
    record {
      le = omega arith;
      few = omega arith;
      long = refl;
      mostly = λ m h. get_d_repeated core_limit m 0;
      counted = refl;
      smallest = refl;
    }

pub load_of-load-requires : goal.load_of-load-requires
load_of-load-requires c =
    let self = c.args.self.now in
    let (low, is) =
    here self.table self.bounds self.k c.loop-row.yielded c.into_iter-row-iterator.result c.loop-row.row-iterator
    c.next.new.self c.next.result c.in-Some.row c.in-Some.bound (search rules) (search rules) c.loop-row.yielded_by
    c.in-Some.is c.next.ensures.steps in
    rw is
    (record {
      range = each_entry InRange self.table self.bounds self.k _ self.ready.within low self.ready.range;
      short_gap = each_entry ShortGap self.table self.bounds self.k _ self.ready.within low self.ready.short;
      short_window = c.requires;
    })

pub raise-requires : goal.raise-requires
raise-requires c =
    let at = c.loop-row in
    let self = c.args.self.now in
    let own = c.args.own.0 in
    let x = c.args.window.0 in
    let i = length at.yielded in
    let small = load_small own x (bounded c.in-Some.row.now c.in-Some.bound.now.0) c.requires in
    record {
      long = at.invariant.long;
      few = omega arith;
      small_without = rw c.load_of-load.ensures.without small.0;
      small_carrying = rw c.load_of-load.ensures.carrying small.1;
      small = λ m h.
          rw (at.invariant.mostly m h)
          (most_small own x m (above self.table self.bounds i) (few_above self.table self.bounds i (omega arith)) c.requires);
    }

pub with_room-rooms-requires : goal.with_room-rooms-requires
with_room-rooms-requires c =
    let self = c.args.self.now in
    let (low, is) =
    here self.table self.bounds self.k c.loop-row.yielded c.into_iter-row-iterator.result c.loop-row.row-iterator
    c.next.new.self c.next.result c.in-Some.row c.in-Some.bound (search rules) (search rules) c.loop-row.yielded_by
    c.in-Some.is c.next.ensures.steps in
    omega arith

pub loop-row-preserved : goal.loop-row-preserved
loop-row-preserved c =
    let at = c.loop-row in
    let self = c.args.self.now in
    let load = c.load_of-load in
    let raised = c.raise.ensures in
    let (low, is) =
    here self.table self.bounds self.k at.yielded c.into_iter-row-iterator.result at.row-iterator c.next.new.self
    c.next.result c.in-Some.row c.in-Some.bound (search rules) (search rules) at.yielded_by c.in-Some.is
    c.next.ensures.steps in
    rw length-append
    (turn self.cores self.table self.bounds self.k c.args.own.0 c.args.window.0 at.mosts
    at.rooms.count at.rooms.least.0 (length at.yielded) self.ready.within low at.invariant
    load.result.without.0 load.result.carrying.0 load.result.room.0 (rw is at load.ensures)
    _ c.with_room-rooms.result.count c.with_room-rooms.result.least.0 raised.long
    raised.each c.with_room-rooms.ensures.0 c.with_room-rooms.ensures.1)

pub returns-then-carriers-rooms : goal.returns-then-carriers-rooms
returns-then-carriers-rooms c =
    let at = c.loop-row in
    let self = c.args.self.now in
    let over =
    all self.table self.bounds self.k at.yielded c.into_iter-row-iterator.result at.row-iterator c.next.new.self
    c.next.result (omega arith) (omega arith) (search rules) (search rules) at.yielded_by c.in-None.is
    c.next.ensures.steps in
    enough_roomy self.cores self.table self.bounds self.k c.args.own.0 c.args.window.0 at.mosts
    at.rooms.count at.rooms.least.0 (length at.yielded) self.ready.some_cores over at.invariant (omega arith)

pub returns-else-carriers-rooms : goal.returns-else-carriers-rooms
returns-else-carriers-rooms c =
    let at = c.loop-row in
    let self = c.args.self.now in
    let over =
    all self.table self.bounds self.k at.yielded c.into_iter-row-iterator.result at.row-iterator c.next.new.self
    c.next.result (omega arith) (omega arith) (search rules) (search rules) at.yielded_by c.in-None.is
    c.next.ensures.steps in
    few_roomy self.cores self.table self.bounds self.k c.args.own.0 c.args.window.0 at.mosts
    at.rooms.count at.rooms.least.0 (length at.yielded) self.ready.some_cores over at.invariant (omega arith)
