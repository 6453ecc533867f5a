-- What a replay writes is in time: its answers are those of a history, and the bounds hold in every history.
use Prim.Native.Nat.{ℕ, ◌+◌, ◌-◌}
use native.Mathlib.Omega.{arith}
use native.Mathlib.Decide.{dec_lt}
use mathlib.Core.Path.{◌≡◌, refl, ap}
use mathlib.Core.Bool.{Bool}
use mathlib.Core.List.{List, [], ◌∷◌, ◌++◌, map}
use borrow.Author.Tests.{lt-ltb, le-ltb}
use lib.ListN.{length}
use lib.Seq.{sets}
use Rattle.bench.specs.declared.Bench.{Bench}
use Rattle.bench.specs.declared.Request.{Request}
use Rattle.bench.specs.History.{call_of, do_call, steps}
use Rattle.bench.proofs.Kept.{opened_empty}
use Rattle.replay.specs.Format.{answer_bytes, answers_joined}
use Rattle.replay.specs.Replay.{requests_in, answered, replay, replay_after, replay_from}
use Rattle.replay.proofs.Writes.{sets_append}
use Rattle.running.specs.Replayed.{ReplayInTime}
use Rattle.running.proofs.Running.{bounds_hold}

-- The requests that were answered, and that the buffer holds just their answers from `at` on.
record Answered (whole : Bool) (b : Bench) (requests : List Request) (place at : ℕ) (out : List ℕ) : Type 0 where
  done : List Request
  left : List Request
  first : requests ≡ done ++ left
  written : (answered whole b requests place at out).out ≡ sets out at (answers_joined (steps b (map call_of done)))

answered_first : (whole : Bool) (requests : List Request) (b : Bench) (place at : ℕ) (out : List ℕ)
    → Answered whole b requests place at out
unfolding answered steps
answered_first whole [] b place at out = record { done = []; left = []; first = refl; written = refl }
answered_first whole (request ∷ rest) b place at out =
    let step = do_call b (call_of request) in
    let bytes = answer_bytes step in
    let more = answered_first whole rest step.bench (place + 6) (at + length bytes) (sets out at bytes) in
    let later = answers_joined (steps step.bench (map call_of more.done)) in
    elim (dec_lt (length out - at) (length bytes)) [
      | yes full ↦
          record {
            done = [];
            left = request ∷ rest;
            first = refl;
            written = rw (answered, lt-ltb (length out - at) (length bytes) full) refl;
          }
      | no fits ↦
          record {
            done = request ∷ more.done;
            left = more.left;
            first = ap (λ (rs : List Request). request ∷ rs) more.first;
            written =
                rw (answered, le-ltb (length out - at) (length bytes) (omega arith), sets_append out at bytes later)
                more.written;
          }
    ]

pub replay_in_time : ReplayInTime
unfolding replay replay_after
replay_in_time cores table start o calls out =
    let (sound, same) = opened_empty cores table start o in
    let opens : replay cores table calls out ≡ replay_from start calls out = rw (sound, replay_after, same) in
    let a = answered_first (requests_in calls).whole (requests_in calls).list start 0 0 out in
    record {
      done = a.done;
      left = a.left;
      first = a.first;
      written = rw opens a.written;
      in_time = λ place low high. (bounds_hold cores table start o (map call_of a.done) place low high).ends_in_time;
      never_21 = λ place low high. (bounds_hold cores table start o (map call_of a.done) place low high).not_unfinished;
    }
