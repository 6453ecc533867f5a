-- A tick keeps the invariant: a full tick, or one that serves the row, lengthens its window; others begin it.
use Prim.Native.Nat.{ℕ, zero, suc, ◌+◌, ◌-◌, ◌<◌}
use mathlib.Core.Path.{◌≡◌, refl}
use mathlib.Core.List.{List}
use native.Mathlib.Omega.{arith}
use lib.ListN.{length, take}
use Rattle.quantities.specs.declared.Row.{Row}
use Rattle.quantities.specs.Row.{cost}
use Rattle.windows.specs.Choice.{Bounded}
use Rattle.bench.specs.declared.RowState.{RowState}
use Rattle.bench.specs.State.{work}
use Rattle.bench.specs.Serving.{unit, units, after_units, worked}
use Rattle.bench.proofs.Units.{unit_facts}
use Rattle.running.proofs.State.{came, spare, served_below, served_up}
use Rattle.running.proofs.Invariant.{Keeps, Facts, fact, Mine, resting, working}
use Rattle.running.proofs.Invariant.{Window, Shown, Inv, done, next}
use Rattle.running.proofs.Stretch.{stretch_full, stretch_own, stretch_anew}

-- a row's state after u units
pub keeps_tick : {now : ℕ} (u : ℕ) {b : Bounded} {st : RowState} → Keeps now b st
    → Keeps (suc now) b (after_units u st)
unfolding after_units
keeps_tick u kept =
    record { fits = omega arith; past = omega arith; known = λ left. kept.known (omega arith) }

-- a row with work left came less than its bound ago
pub in_time : {M now : ℕ} {b : Bounded} {st : RowState} {above : List Bounded} {up : List RowState}
    → Shown M above b → Window M now b st above up → 0 < work st → now < came st + b.bound
in_time {now} {b} {st} shown window some = go window.mine
  where
    go : Mine window.start b st window.own → now < came st + b.bound
    go (resting over unserved) = absurd (omega arith)
    go (working left since part) =
        let low = shown.range.low in
        let early = window.stretch.within (cost b.row) b.bound (omega arith) low shown.passes in
        omega arith

-- the row's own part through a full tick, which leaves nothing to the row
mine_full : {start own : ℕ} (free : ℕ) {b : Bounded} (st : RowState) → free ≡ 0 → Mine start b st own
    → Mine start b (after_units (unit free (work st)) st) own
unfolding after_units
mine_full free st none_free (resting over unserved) = resting (omega arith) unserved
mine_full free st none_free (working left since part) =
    let got = unit_facts free (work st) in
    working (omega arith) since (omega arith)

-- and through a tick that served the row and left it work
mine_own : {start own : ℕ} (free : ℕ) {b : Bounded} (st : RowState) → 0 < free
    → 0 < work st - unit free (work st) → Mine start b st own
    → Mine start b (after_units (unit free (work st)) st) (suc own)
unfolding after_units
mine_own free st some_free left (resting over unserved) = absurd (omega arith)
mine_own free st some_free left (working some since part) =
    let got = unit_facts free (work st) in
    working left since (omega arith)

-- a core was free below the rows above, and the row has no work left: its window begins with the next tick
window_anew : {M now : ℕ} {b : Bounded} (st : RowState) {above : List Bounded} {up : List RowState}
    → Facts now above up → 0 < spare M up → work st - unit (spare M up) (work st) ≡ 0
    → Window M (suc now) b (served_below M up st) above (served_up M up)
unfolding after_units
window_anew {now} st facts free over =
    record { start = suc now; own = 0; mine = resting over refl; stretch = stretch_anew facts free }

module _ {M now : ℕ} {b : Bounded} {st : RowState} {above : List Bounded} {up : List RowState} where
  -- M rows above were served: a full tick more
  window_full : Facts now above up → Window M now b st above up → spare M up ≡ 0
      → Window M (suc now) b (served_below M up st) above (served_up M up)
  window_full facts window none_free =
      record {
        start = window.start;
        own = window.own;
        mine = mine_full (spare M up) st none_free window.mine;
        stretch = stretch_full facts none_free window.stretch;
      }

  -- the row was served and has work left: a tick of its own more
  window_own : Facts now above up → Window M now b st above up → 0 < spare M up
      → 0 < work st - unit (spare M up) (work st)
      → Window M (suc now) b (served_below M up st) above (served_up M up)
  window_own facts window free left =
      record {
        start = window.start;
        own = suc window.own;
        mine = mine_own (spare M up) st free left window.mine;
        stretch = stretch_own facts window.stretch;
      }

  window_tick : Facts now above up → Window M now b st above up
      → Window M (suc now) b (served_below M up st) above (served_up M up)
  window_tick facts window = go (spare M up) refl (work st - unit (spare M up) (work st)) refl
    where
      go : (free : ℕ) → spare M up ≡ free → (left : ℕ) → work st - unit (spare M up) (work st) ≡ left
          → Window M (suc now) b (served_below M up st) above (served_up M up)
      go zero e left l = window_full facts window e
      go (suc free) e zero l = window_anew st facts (omega arith) l
      go (suc free) e (suc left) l = window_own facts window (omega arith) (omega arith)

-- A tick from the top: the rows above have got their units, and leave these cores to the rows here.
pub inv_tick : {M now : ℕ} {above : List Bounded} {up : List RowState} {rows : List Row} {bounds : List ℕ}
    {states : List RowState}
    → Facts now above up → Inv M now above up rows bounds states
    → Inv M (suc now) above (served_up M up) rows bounds
    (worked (units (spare M up) (take (length rows) states)) states)
unfolding units worked
inv_tick facts done = done
inv_tick {M} {up} facts (next {st} shown kept window below) =
    next shown (keeps_tick (unit (spare M up) (work st)) kept) (window_tick facts window)
    (inv_tick (fact shown.range kept (in_time shown window) facts) below)
