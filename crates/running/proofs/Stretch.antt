-- A stretch through a tick: a full tick more, one of the row judged more, or begun anew.
use Prim.Native.Nat.{ℕ, suc, ◌+◌, ◌*◌, ◌<◌}
use mathlib.Core.Path.{◌≡◌}
use mathlib.Core.List.{List}
use native.Mathlib.Omega.{arith}
use Rattle.windows.specs.Choice.{Bounded}
use Rattle.bench.specs.declared.RowState.{RowState}
use Rattle.bench.specs.Serving.{sum}
use Rattle.running.proofs.State.{spare, served_up}
use Rattle.running.proofs.Invariant.{Facts, Stretch}
use Rattle.running.proofs.Above.{above_full, above_slack, anew, ranges}
use Rattle.running.proofs.Count.{short}

module _ {M now : ℕ} {above : List Bounded} {up : List RowState} where
  -- M rows above were served: a full tick more
  pub stretch_full : {start own : ℕ} → Facts now above up → spare M up ≡ 0 → Stretch M now start own above up
      → Stretch M (suc now) start own above (served_up M up)
  stretch_full {start} {own} facts none_free before =
      let tick = above_full M facts before.rows in
      let full : sum tick.vs' ≡ M * suc before.busy = omega (arith, tick.gain) in
      let span : suc now ≡ start + (suc before.busy + own) = omega arith in
      record {
        busy = suc before.busy;
        flags = before.flags;
        vs = tick.vs';
        few = before.few;
        span = span;
        full = full;
        rows = tick.rows;
        within = λ n x unfinished low passes.
            let was = before.within n x unfinished low passes in
            short n x (ranges facts) before.few full tick.rows span unfinished low passes (omega arith);
      }

  -- the row judged was served: a tick of its own more
  pub stretch_own : {start own : ℕ} → Facts now above up → Stretch M now start own above up
      → Stretch M (suc now) start (suc own) above (served_up M up)
  stretch_own {start} {own} facts before =
      let rows = above_slack M facts before.rows in
      let span : suc now ≡ start + (before.busy + suc own) = omega arith in
      record {
        busy = before.busy;
        flags = before.flags;
        vs = before.vs;
        few = before.few;
        span = span;
        full = before.full;
        rows = rows;
        within = λ n x unfinished low passes.
            let was = before.within n x (omega arith) low passes in
            short n x (ranges facts) before.few before.full rows span unfinished low passes (omega arith);
      }

  -- a core was free below the rows above: a stretch begins with the next tick
  pub stretch_anew : Facts now above up → 0 < spare M up → Stretch M (suc now) (suc now) 0 above (served_up M up)
  stretch_anew facts free =
      let begun = anew M facts free in
      record {
        busy = 0;
        flags = begun.fs;
        vs = begun.vs;
        few = omega (arith, begun.few);
        span = omega arith;
        full = omega (arith, begun.zeros);
        rows = begun.rows;
        within = λ n x unfinished low passes. omega arith;
      }
