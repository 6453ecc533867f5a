-- The invariant of an empty bench, from the bounds of a sound list.
use Prim.Native.Nat.{ℕ, zero, suc, ◌≤◌, ◌<◌}
use mathlib.Core.Path.{◌≡◌, refl}
use mathlib.Core.Bool.{Bool, false}
use mathlib.Core.List.{List, [], ◌∷◌}
use native.Mathlib.Omega.{arith}
use lib.ListN.{length, replicate}
use Rattle.laws.specs.Each.{Each}
use Rattle.quantities.specs.declared.Row.{Row}
use Rattle.quantities.specs.Row.{SoundRow}
use Rattle.quantities.specs.Checks.{SoundList}
use Rattle.windows.specs.Choice.{Bounded, bounded, carriers}
use Rattle.windows.specs.Answer.{judged, verdict}
use Rattle.windows.specs.Bound.{IsBound}
use Rattle.windows.proofs.Judgement.{Walk, over, stop, on, walk, judged_sound}
use Rattle.bench.specs.declared.RowState.{RowState}
use Rattle.bench.specs.State.{idle}
use Rattle.bench.specs.Serving.{sum}
use Rattle.running.proofs.Invariant.{Keeps, quiet, Above, more, resting}
use Rattle.running.proofs.Invariant.{Stretch, Window, Shown, Inv, done, next}

-- Rows above of which none has done anything.
pub record Untouched (above : List Bounded) (up : List RowState) : Type 0 where
  pub flags : List Bool
  pub vs : List ℕ
  pub no_carrier : carriers flags ≡ 0
  pub no_work : sum vs ≡ 0
  pub rows : Above 0 0 0 above up flags vs

untouched_below : {b : Bounded} {above : List Bounded} {up : List RowState} → Untouched above up
    → Untouched (b ∷ above) (idle ∷ up)
untouched_below still =
    record {
      flags = false ∷ still.flags;
      vs = 0 ∷ still.vs;
      no_carrier = still.no_carrier;
      no_work = omega (arith, still.no_work);
      rows = more {v = 0} 0 (omega arith) (omega arith) (quiet refl refl) still.rows;
    }

-- a stretch on an empty bench begins at instant 0
pub stretch_start : {M : ℕ} {above : List Bounded} {up : List RowState} → 0 < M → Untouched above up
    → Stretch M 0 0 0 above up
stretch_start cores still =
    record {
      busy = 0;
      flags = still.flags;
      vs = still.vs;
      few = omega (arith, still.no_carrier);
      span = refl;
      full = omega (arith, still.no_work);
      rows = still.rows;
      within = λ n x unfinished low passes. omega arith;
    }

window_start : {M : ℕ} {b : Bounded} {above : List Bounded} {up : List RowState} → 0 < M → Untouched above up
    → Window M 0 b idle above up
window_start cores still =
    record { start = 0; own = 0; mine = resting refl refl; stretch = stretch_start cores still }

-- a least window is a bound that is right
bound_shown : {M r : ℕ} {above : List Bounded} {row : Row} → SoundRow row → IsBound M above row r
    → Shown M above (bounded row r)
bound_shown sound least =
    record {
      range = record { works = sound.some_work; low = least.low; high = omega arith };
      passes = least.holds;
    }

keeps_idle : (row : Row) (r : ℕ) → Keeps 0 (bounded row r) idle
keeps_idle row r = record { fits = omega arith; past = omega arith; known = λ left. absurd (omega arith) }

pub inv_start : {M : ℕ} {above : List Bounded} {up : List RowState} {rows : List Row} {bounds : List ℕ}
    → 0 < M → Untouched above up → Each SoundRow rows → Walk M above rows bounds → (n : ℕ) → length rows ≤ n
    → Inv M 0 above up rows bounds (replicate n idle)
inv_start cores still sound over n fits = done
inv_start cores still sound (stop unshown) n fits = done
inv_start cores still sound (on least below) zero fits = absurd (omega arith)
inv_start cores still sound (on {row} {b = r} least below) (suc n) fits =
    let shown = bound_shown sound.0 least in
    next shown (keeps_idle row r) (window_start cores still)
    (inv_start cores (untouched_below still) sound.1 below n (omega arith))

-- the bounds of a sound list are least windows, row by row
pub judged_walk : (M : ℕ) (rows : List Row) → SoundList M rows → Walk M [] rows (judged M rows).bounds
unfolding verdict
judged_walk M rows sound = rw (judged_sound M rows sound) (walk M [] rows)
