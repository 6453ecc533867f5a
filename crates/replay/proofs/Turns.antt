-- A replay as the code's loop makes it: what holds before each turn, that a turn keeps it, and what it gives at each end.
use Rattle.std.specs.Prelude.{None, Some, Ok, Err}
use Prim.Native.Nat.{ℕ, suc, ◌+◌, ◌*◌, ◌-◌, ◌≤◌, ◌<◌}
use native.Mathlib.Omega.{arith}
use mathlib.Core.Path.{◌≡◌, refl, sym, ap, ◌∙◌}
use mathlib.Core.List.{List}
use lib.ListN.{length, take, drop, length-drop, length-take, replicate}
use lib.Seq.{sets, length-sets, take-append_seam}
use Rattle.quantities.specs.Limits.{row_capacity}
use Rattle.quantities.proofs.Rows.{length_rows}
use Rattle.bench.specs.declared.Bench.{Bench}
use Rattle.bench.specs.declared.Finish.{Finish}
use Rattle.bench.specs.declared.Request.{Request}
use Rattle.bench.specs.declared.Ticked.{Ticked}
use Rattle.bench.specs.State.{rows}
use Rattle.bench.specs.Ended.{no_finish, finishes_of}
use Rattle.bench.specs.Step.{Step, served, taken, ticked_of}
use Rattle.bench.specs.History.{Call, do_call, call_of}
use Rattle.bench.proofs.State.{whole_of, sound_fits}
use Rattle.bench.proofs.Serving.{finished_few, length_units}
use Rattle.bench.proofs.Steps.{CallCase, refused, released, ticked, call_case}
use Rattle.replay.specs.declared.Unanswered.TheVariants.{NotACall, NoRoom}
use Rattle.replay.specs.Format.{request_in, answer_of, answer_bytes}
use Rattle.replay.specs.Replay.{replay_from}
use Rattle.replay.proofs.Format.{requests_next}
use Rattle.replay.proofs.Writes.{counted, length_polls}
use Rattle.replay.proofs.Calls.{replay_rest, no_call, no_room, one_more, all_done}

-- no call ends more polls than a table can have rows
pub polls_few : (b : Bench) (call : Call) → length (do_call b call).finishes ≤ row_capacity
unfolding taken served
polls_few b call = at (call_case b call)
  where
    at : {one : Call} {step : Step} → CallCase b one step → length step.finishes ≤ row_capacity
    at (refused why q) = omega arith
    at (released q may) = omega arith
    at (ticked q may) =
        let fits = sound_fits b.cores b.table (whole_of b may.whole).sound in
        let few = finished_few (suc b.now.0) 1 (served b) b.states in
        let n = length_units b.cores (take (length (rows b)) b.states) in
        omega (arith, length-take (length (rows b)) b.states, length_rows b.table)

-- What the code's answer r says of the step: its polls, its bytes and their number, the bench.
pub record Says (step : Step) (r : Ticked) : Type 0 where
  pub few : r.finishes.count ≤ row_capacity
  pub size : 3 + 5 * r.finishes.count ≡ length (answer_bytes step)
  pub bytes : answer_of r.outcome (counted r.finishes) ≡ answer_bytes step
  pub bench : r.bench ≡ step.bench

counted_all : (polls : List Finish) → counted (finishes_of polls) ≡ polls
unfolding finishes_of
counted_all polls = take-append_seam polls (replicate (row_capacity - length polls) no_finish)

pub answer_says : (b : Bench) (call : Call) (r : Ticked) → r ≡ ticked_of (do_call b call) → Says (do_call b call) r
unfolding ticked_of finishes_of
answer_says b call r e =
    let step = do_call b call in
    let n = length_polls step.finishes in
    record {
      few = rw e (polls_few b call);
      size = rw e (omega arith);
      bytes = rw (e, counted_all step.finishes);
      bench = rw e;
    }

-- Before the turn at byte `place` of the calls: replaying the rest from here is the whole replay.
pub record Replays (b₀ : Bench) (calls out₀ out : List ℕ) (b : Bench) (place at : ℕ) : Type 0 where
  pub within : place ≤ length calls
  pub room : at ≤ length out
  pub same_length : length out ≡ length out₀
  pub rest : replay_rest calls b place at out ≡ replay_from b₀ calls out₀

pub replays_first : (b : Bench) (calls out : List ℕ) → Replays b calls out out b 0 0
replays_first b calls out = record { within = omega arith; room = omega arith; same_length = refl; rest = refl }

module _ (b₀ : Bench) (calls out₀ out : List ℕ) (b : Bench) (place at : ℕ) (s : Replays b₀ calls out₀ out b place at) where
  pub replays_no_call : place < length calls → request_in (drop place calls) ≡ None
      → replay_from b₀ calls out₀ ≡ record { answer = Err (NotACall place); out = out }
  replays_no_call h e = sym s.rest ∙ no_call calls b place at out h e

  pub replays_last : length calls ≤ place → replay_from b₀ calls out₀ ≡ record { answer = Ok at; out = out }
  replays_last h = sym s.rest ∙ all_done calls b place at out h

  module _ (request : Request) (e : request_in (drop place calls) ≡ Some request) (r : Ticked) (er : r ≡ ticked_of (do_call b (call_of request))) where
    pub replays_no_room : length out - at < 3 + 5 * r.finishes.count → replay_from b₀ calls out₀ ≡ record { answer = Err (NoRoom place); out = out }
    replays_no_room h =
        let says = answer_says b (call_of request) r er in
        sym s.rest ∙ no_room calls b place at out request e (rw says.size at h)

    pub replays_next : 3 + 5 * r.finishes.count ≤ length out - at
        → (out' : List ℕ) → out' ≡ sets out at (answer_of r.outcome (counted r.finishes)) → Replays b₀ calls out₀ out' r.bench (place + 6) (at + (3 + 5 * r.finishes.count))
    replays_next h out' eo =
        let says = answer_says b (call_of request) r er in
        let six = (requests_next (drop place calls) request e).0 in
        let same : out' ≡ sets out at (answer_bytes (do_call b (call_of request))) = eo ∙ ap (λ bytes. sets out at bytes) says.bytes in
        let n = length-sets out at (answer_bytes (do_call b (call_of request))) in
        let m : length out' ≡ length out = ap length same ∙ n in
        record {
          within = omega (arith, length-drop place calls);
          room = omega (arith, s.room);
          same_length = m ∙ s.same_length;
          rest = rw (says.bench, says.size, same) (sym (one_more calls b place at out request e (rw says.size at h)) ∙ s.rest);
        }
