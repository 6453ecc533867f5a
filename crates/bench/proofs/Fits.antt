-- Each poll that a tick's answer lists has a place of at most 32 and a response of at most 1,000,000,000: a byte and four.
use Prim.Native.Nat.{ℕ, suc, ◌≤◌, ◌<◌}
use native.Mathlib.Omega.{arith}
use lib.ListN.{length}
use Rattle.std.specs.Prelude.{Option, None, Some}
use Rattle.laws.specs.Each.{Each}
use Rattle.laws.proofs.Lists.{each_map}
use Rattle.quantities.specs.Limits.{row_capacity}
use Rattle.quantities.proofs.Rows.{length_rows}
use Rattle.quantities.specs.declared.Instant.{Instant}
use Rattle.bench.specs.declared.Bench.{Bench}
use Rattle.bench.specs.declared.Finish.{Finish}
use Rattle.bench.specs.State.{last_instant, rows, state_at}
use Rattle.bench.specs.Serving.{since}
use Rattle.bench.specs.Step.{Step, taken, tick}
use Rattle.bench.specs.History.{ticks}
use Rattle.bench.proofs.State.{whole_of, sound_fits}
use Rattle.bench.proofs.Steps.{CallCase, refused, ticked, call_case}
use Rattle.bench.proofs.Responses.{Ends, each_ends}

-- A poll whose place and response are no larger than a row's place and an instant can be.
pub record Fits (poll : Finish) : Type 0 where
  pub place : poll.place ≤ row_capacity
  pub response : poll.response.0 ≤ last_instant

since_le : (instant : ℕ) (last : Option Instant) → since instant last ≤ instant
unfolding since
since_le instant None = omega arith
since_le instant (Some at) = omega arith

ends_fit : (b : Bench) → length (rows b) ≤ row_capacity → b.now.0 < last_instant → (poll : Finish) → Ends b poll → Fits poll
ends_fit b few early poll e =
    record {
      place = omega (arith, e.high);
      response = omega (arith, e.response, since_le (suc b.now.0) (state_at b poll.place).last);
    }

-- Each poll is so, for any record: a tick at the clock's end, or with more rows than a table keeps, is refused.
pub polls_fit : (b : Bench) → Each Fits (tick b).finishes
polls_fit b = at (call_case b ticks)
  where
    at : {step : Step} → CallCase b ticks step → Each Fits step.finishes
    at (refused why q) = tt
    at (ticked q may) =
        let whole = whole_of b may.whole in
        let few = sound_fits b.cores b.table whole.sound in
        let early : b.now.0 < last_instant = omega (arith, whole.in_time, may.clock) in
        let fit = ends_fit b (omega (arith, length_rows b.table, few)) early in
        each_map fit (taken b).finishes (each_ends b)
