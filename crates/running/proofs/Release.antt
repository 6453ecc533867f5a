-- A release keeps the invariant: for the row itself, and for each row below it.
use Prim.Native.Nat.{ℕ, zero, suc, ◌-◌, ◌≤◌, ◌<◌}
use mathlib.Core.Path.{◌≡◌, refl}
use mathlib.Core.Bool.{Bool, true}
use mathlib.Core.List.{List, ◌∷◌}
use native.Mathlib.Omega.{arith}
use lib.ListN.{get_or, set}
use Rattle.quantities.specs.declared.Row.{Row}
use Rattle.quantities.specs.Row.{cost, gap, no_row}
use Rattle.windows.specs.Choice.{Bounded, bounded}
use Rattle.bench.specs.declared.RowState.{RowState}
use Rattle.bench.specs.State.{work, idle}
use Rattle.bench.specs.Step.{fresh}
use Rattle.running.proofs.State.{ever, came}
use Rattle.running.proofs.Invariant.{Keeps, Above, more, Mine, resting, working}
use Rattle.running.proofs.Invariant.{Stretch, Window, Inv, done, next}
use Rattle.running.proofs.Phase.{phase_release}

-- A release that the bench takes: 1 to C ticks, the gap is kept, and the last poll is over.
pub record Allowed (now demand : ℕ) (row : Row) (st : RowState) : Type 0 where
  pub some : 0 < demand
  pub fits : demand ≤ cost row
  pub kept : ever st ≡ true → gap row ≤ now - came st
  pub over : work st ≡ 0

-- One of the rows above was released.
pub data Released (now demand : ℕ) : List Bounded → List RowState → List RowState → Type 0 where
  here : {b : Bounded} {st : RowState} {above : List Bounded} {up : List RowState}
      → Allowed now demand b.row st → Released now demand (b ∷ above) (st ∷ up) (fresh now demand ∷ up)
  there : {b : Bounded} {st : RowState} {above : List Bounded} {up up' : List RowState}
      → Released now demand above up up' → Released now demand (b ∷ above) (st ∷ up) (st ∷ up')

above_release : {now demand start busy : ℕ} {above : List Bounded} {up up' : List RowState} {fs : List Bool}
    {vs : List ℕ}
    → start ≤ now → Released now demand above up up' → Above now start busy above up fs vs
    → Above now start busy above up' fs vs
above_release begun (here a) (more w work_v busy_v phase rows) =
    more w work_v busy_v (phase_release a.over a.kept begun a.fits phase) rows
above_release begun (there r) (more w work_v busy_v phase rows) =
    more w work_v busy_v phase (above_release begun r rows)

-- a stretch, and the window of a row, when a row above is released
pub stretch_release : {M now demand start own : ℕ} {above : List Bounded} {up up' : List RowState}
    → Released now demand above up up' → Stretch M now start own above up → Stretch M now start own above up'
stretch_release released before =
    record {
      busy = before.busy;
      flags = before.flags;
      vs = before.vs;
      few = before.few;
      span = before.span;
      full = before.full;
      rows = above_release (omega arith) released before.rows;
      within = before.within;
    }

pub window_above : {M now demand : ℕ} {b : Bounded} {st : RowState} {above : List Bounded}
    {up up' : List RowState}
    → Released now demand above up up' → Window M now b st above up → Window M now b st above up'
window_above released window =
    record {
      start = window.start;
      own = window.own;
      mine = window.mine;
      stretch = stretch_release released window.stretch;
    }

-- the window of a row that is released itself
pub window_mine : {M now demand : ℕ} {b : Bounded} {st : RowState} {above : List Bounded} {up : List RowState}
    → Allowed now demand b.row st → Window M now b st above up
    → Window M now b (fresh now demand) above up
window_mine {now} {demand} {b} {st} allowed window =
    record {
      start = window.start;
      own = window.own;
      mine = begun window.mine;
      stretch = window.stretch;
    }
  where
    begun : Mine window.start b st window.own → Mine window.start b (fresh now demand)
        window.own
    begun (resting over unserved) = working allowed.some (omega arith) (omega (arith, allowed.fits))
    begun (working left since part) = absurd (omega (arith, allowed.over))

-- the rows below a row that is released
inv_above : {M now demand : ℕ} {above : List Bounded} {up up' : List RowState} {rows : List Row}
    {bounds : List ℕ} {states : List RowState}
    → Released now demand above up up' → Inv M now above up rows bounds states
    → Inv M now above up' rows bounds states
inv_above released done = done
inv_above released (next shown kept window below) =
    next shown kept (window_above released window) (inv_above (there released) below)

-- a release of the row with index i
pub inv_release : {M now demand : ℕ} {above : List Bounded} {up : List RowState} {rows : List Row}
    {bounds : List ℕ} {states : List RowState}
    (i : ℕ) → Allowed now demand (get_or rows i no_row) (get_or states i idle)
    → Inv M now above up rows bounds states
    → Inv M now above up rows bounds (set states i (fresh now demand))
inv_release i allowed done = done
inv_release {now} {demand} zero allowed (next {row} {r} shown kept window below) =
    let fresh_kept : Keeps now (bounded row r) (fresh now demand) =
    record { fits = allowed.fits; past = omega arith; known = λ some. refl } in
    next shown fresh_kept (window_mine allowed window)
    (inv_above (here allowed) below)
inv_release (suc i) allowed (next shown kept window below) =
    next shown kept window (inv_release i allowed below)
