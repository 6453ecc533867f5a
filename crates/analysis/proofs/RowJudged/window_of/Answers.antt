-- RowJudged::window_of searches upward by jumps; no window before the present one passes.
use Rattle.std.specs.Prelude.{None, Some}
use Prim.Native.Nat.{ℕ, suc, ◌+◌, ◌-◌, ◌*◌, ◌/◌, ◌≤◌, ◌<◌, max}
use native.Mathlib.Omega.{arith}
use native.Mathlib.Nat.{le_trans, div-le_self}
use mathlib.Core.Path.{◌≡◌}
use mathlib.Core.List.{List}
use lib.ListN.{length}
use Rattle.laws.specs.Each.{Each}
use Rattle.quantities.specs.Limits.{row_capacity}
use Rattle.quantities.specs.Lengths.{ticks}
use Rattle.windows.specs.Choice.{Bounded, InRange, Passes}
use Rattle.windows.specs.Jump.{next, rooms, reach}
use Rattle.windows.specs.Bound.{window}
use Rattle.windows.proofs.Least.{before_start, before_on, before_least, before_none}
use Rattle.windows.proofs.Jump.{next_means}
use Rattle.windows.proofs.Room.{stride_le_top}
use Rattle.windows.proofs.Far.{reach_jumps}
use Rattle.windows.proofs.Bound.{window_some, window_none}
use Rattle.analysis.specs.Engine.{largest_window, above, found_of, TakenIs}
use Rattle.analysis.proofs.Small.{few_above, most_small}
use Rattle.analysis.proofs.RowJudged.window_of.Invariants.{In}
use Rattle.analysis.proofs.RowJudged.window_of.Goals as goal

-- One turn at the window x, when the rows above take so much and have room for this stride.
module _ (cores own : ℕ) (rows : List Bounded) (x most_taken stride : ℕ) (some_cores : 0 < cores)
    (inv : In cores own rows x) (taken : TakenIs cores own x rows most_taken stride) where
  -- the next window, as the code computes it
  next_is : own + most_taken / cores ≡ next cores own rows x
  unfolding next
  next_is = rw taken.mostly

  stops : own + most_taken / cores ≤ x → Passes cores own rows x
  stops reached = (next_means cores own rows x some_cores inv.low).1 (omega (arith, next_is))

  goes_on : Each InRange rows → x < own + most_taken / cores
      → In cores own rows (max (own + most_taken / cores) (x + stride + 1))
  unfolding reach
  goes_on range short =
      let fails : Passes cores own rows x → ⊥ =
      λ holds. omega (arith, next_is, (next_means cores own rows x some_cores inv.low).0 holds) in
      let jumps = reach_jumps cores own largest_window rows x some_cores range inv.low fails in
      let same : reach cores own largest_window rows x ≡ max (own + most_taken / cores) (x + stride + 1) =
      omega (arith, next_is, taken.striding) in
      record { low = omega (arith, inv.low); before = before_on inv.before (rw same at jumps) }

  -- what the turn adds up to stays small
  share_small : length rows ≤ row_capacity → x ≤ largest_window → most_taken / cores ≤ row_capacity * suc largest_window
  share_small few short =
      le_trans (div-le_self most_taken cores) (rw taken.mostly (most_small own x (cores - 1) rows few short))

  stride_small : stride ≤ largest_window
  stride_small = rw taken.striding (stride_le_top cores largest_window (rooms own x rows))

-- The end of the search, at the window x.
module _ (cores own top : ℕ) (rows : List Bounded) (x : ℕ) (inv : In cores own rows x) where
  found : x ≤ top → Passes cores own rows x → Some (ticks x) ≡ found_of (window cores own top rows)
  unfolding found_of
  found high holds =
      rw ((window_some cores own top rows x).1 (before_least inv.low high inv.before holds))

  nothing : top < x → None ≡ found_of (window cores own top rows)
  unfolding found_of
  nothing over = rw ((window_none cores own top rows).1 (before_none over inv.before))

pub loop-x-init : goal.loop-x-init
loop-x-init c = record { low = omega arith; before = before_start _ _ }

pub overflow_add-next : goal.overflow_add-next
overflow_add-next c =
    let rows = above c.args.self.now.table c.args.self.now.bounds c.args.self.now.k in
    let at = c.loop-x in
    let taken = c.taken_above-taken in
    let few = few_above c.args.self.now.table c.args.self.now.bounds c.args.self.now.k (omega arith) in
    let share =
    share_small c.args.self.now.cores c.args.own.0 rows at.x taken.result.most.0 taken.result.stride.0
    c.args.self.now.ready.some_cores at.invariant taken.ensures few (omega arith) in
    rw c.from.ensures (record { fits = omega arith })

pub returns-then-next-x : goal.returns-then-next-x
returns-then-next-x c =
    let rows = above c.args.self.now.table c.args.self.now.bounds c.args.self.now.k in
    let at = c.loop-x in
    let taken = c.taken_above-taken in
    found c.args.self.now.cores c.args.own.0 c.args.top.0 rows at.x at.invariant (omega arith)
    (stops c.args.self.now.cores c.args.own.0 rows at.x taken.result.most.0 taken.result.stride.0
    c.args.self.now.ready.some_cores at.invariant taken.ensures (rw c.from.ensures at c.if-next-x.true))

pub overflow_add-far : goal.overflow_add-far
overflow_add-far c =
    let rows = above c.args.self.now.table c.args.self.now.bounds c.args.self.now.k in
    let at = c.loop-x in
    let taken = c.taken_above-taken in
    let stride =
    stride_small c.args.self.now.cores c.args.own.0 rows at.x taken.result.most.0 taken.result.stride.0
    c.args.self.now.ready.some_cores at.invariant taken.ensures in
    record { fits = omega arith }

pub overflow_add-far-in-loop-x : goal.overflow_add-far-in-loop-x
overflow_add-far-in-loop-x c =
    let rows = above c.args.self.now.table c.args.self.now.bounds c.args.self.now.k in
    let at = c.loop-x in
    let taken = c.taken_above-taken in
    let stride =
    stride_small c.args.self.now.cores c.args.own.0 rows at.x taken.result.most.0 taken.result.stride.0
    c.args.self.now.ready.some_cores at.invariant taken.ensures in
    record { fits = omega arith }

pub loop-x-preserved : goal.loop-x-preserved
loop-x-preserved c =
    let rows = above c.args.self.now.table c.args.self.now.bounds c.args.self.now.k in
    let at = c.loop-x in
    let taken = c.taken_above-taken in
    rw (c.max-x.ensures, c.from.ensures)
    (goes_on c.args.self.now.cores c.args.own.0 rows at.x taken.result.most.0 taken.result.stride.0
    c.args.self.now.ready.some_cores at.invariant taken.ensures c.args.self.now.ready.range (rw c.from.ensures at c.if-next-x.false))

pub returns : goal.returns
returns c =
    let at = c.loop-x in
    nothing c.args.self.now.cores c.args.own.0 c.args.top.0 (above c.args.self.now.table c.args.self.now.bounds c.args.self.now.k) at.x at.invariant (omega arith)
