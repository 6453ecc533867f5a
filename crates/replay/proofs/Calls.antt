-- Laws of a replay: one call after the other, and that it is the run of the definition.
use Rattle.std.specs.Prelude.{None, Some, Ok, Err}
use Prim.Native.Nat.{ℕ, suc, ◌+◌, ◌*◌, ◌-◌, ◌≤◌, ◌<◌}
use native.Mathlib.Omega.{arith}
use native.Mathlib.Nat.{add-zero}
use mathlib.Core.Path.{◌≡◌, sym, ap, ◌∙◌}
use mathlib.Core.Bool.{Bool}
use mathlib.Core.List.{List, [], ◌∷◌, ◌++◌, map}
use lib.ListN.{length, drop, length-drop, length-append, drop_of_length-le}
use lib.Seq.{sets, length-sets, drop-drop}
use borrow.Author.Tests.{lt-ltb, le-ltb}
use Rattle.quantities.specs.Table.{rows_of}
use Rattle.quantities.specs.Checks.{list_fault}
use Rattle.quantities.specs.declared.Table.{Table}
use Rattle.quantities.specs.declared.Fault.{Fault}
use Rattle.quantities.proofs.Checks.{checked_ok, checked_err}
use Rattle.bench.specs.declared.Bench.{Bench}
use Rattle.bench.specs.declared.Opening.{Opening}
use Rattle.bench.specs.declared.Request.{Request}
use Rattle.bench.specs.Step.{Step, empty_bench, opening_of}
use Rattle.bench.proofs.Open.{opening_sound}
use Rattle.bench.specs.History.{do_call, call_of, steps}
use Rattle.replay.specs.declared.Unanswered.TheVariants.{NotOpened, NotACall, NoRoom}
use Rattle.replay.specs.Format.{request_in, answer_bytes, answers_joined}
use Rattle.replay.specs.Replay.{Requests, requests_in, Replay, ending, answered, replay_from, replay_after, replay}
use Rattle.replay.proofs.Format.{requests_stop, requests_next}
use Rattle.replay.proofs.Writes.{sets_append}

-- the replay of the calls from a byte on
abbrev pub replay_rest : (calls : List ℕ) → Bench → (place at : ℕ) → List ℕ → Replay
replay_rest calls b place at out =
    answered (requests_in (drop place calls)).whole b (requests_in (drop place calls)).list place at out

-- a request that there is room for is answered, and the rest follows
with_room : (whole : Bool) (b : Bench) (request : Request) (rest : List Request) (place at : ℕ) (out : List ℕ)
    → length (answer_bytes (do_call b (call_of request))) ≤ length out - at
    → answered whole b (request ∷ rest) place at out
    ≡ answered whole (do_call b (call_of request)).bench rest (place + 6)
    (at + length (answer_bytes (do_call b (call_of request))))
    (sets out at (answer_bytes (do_call b (call_of request))))
unfolding answered
with_room whole b request rest place at out h =
    rw (answered, le-ltb (length out - at) (length (answer_bytes (do_call b (call_of request)))) h)

-- One turn at a byte of the calls.
module _ (calls : List ℕ) (b : Bench) (place at : ℕ) (out : List ℕ) where
  pub no_call : place < length calls → request_in (drop place calls) ≡ None → replay_rest calls b place at out ≡ record { answer = Err (NotACall place); out = out }
  unfolding answered
  no_call h e = rw (requests_stop (drop place calls) (omega (arith, length-drop place calls)) e)

  module _ (request : Request) (e : request_in (drop place calls) ≡ Some request) where
    abbrev step : Step
    step = do_call b (call_of request)

    pub no_room : length out - at < length (answer_bytes step) → replay_rest calls b place at out ≡ record { answer = Err (NoRoom place); out = out }
    unfolding answered
    no_room h = rw ((requests_next (drop place calls) request e).1, answered, lt-ltb (length out - at) (length (answer_bytes step)) h)

    pub one_more : length (answer_bytes step) ≤ length out - at
        → replay_rest calls b place at out ≡ replay_rest calls step.bench (place + 6) (at + length (answer_bytes step)) (sets out at (answer_bytes step))
    one_more h =
        ap (λ (r : Requests). answered r.whole b r.list place at out) (requests_next (drop place calls) request e).1
        ∙ with_room (requests_in (drop 6 (drop place calls))).whole b request (requests_in (drop 6 (drop place calls))).list place at out h
        ∙ ap
        (λ (bytes : List ℕ).
        answered (requests_in bytes).whole step.bench (requests_in bytes).list (place + 6)
        (at + length (answer_bytes step))
        (sets out at (answer_bytes step)))
        (drop-drop 6 place calls)

  pub all_done : length calls ≤ place → replay_rest calls b place at out ≡ record { answer = Ok at; out = out }
  unfolding answered requests_in
  all_done h = rw (drop_of_length-le calls {i = place} h)

-- Where there is room for all of them, the buffer holds the answers of the run of the definition, and no other byte changed.
pub replay_run : (whole : Bool) (requests : List Request) (b : Bench) (place at : ℕ) (out : List ℕ) → at + length (answers_joined (steps b (map call_of requests))) ≤ length out
    → answered whole b requests place at out
    ≡ record { answer = ending whole (place + 6 * length requests) (at + length (answers_joined (steps b (map call_of requests)))); out = sets out at (answers_joined (steps b (map call_of requests))) }
unfolding answered steps
replay_run whole [] b place at out h = rw (add-zero, add-zero)
replay_run whole (request ∷ rest) b place at out h =
    let step = do_call b (call_of request) in
    let bytes = answer_bytes step in
    let later = answers_joined (steps step.bench (map call_of rest)) in
    let both = length-append bytes later in
    let fits : length bytes ≤ length out - at = omega arith in
    let more = replay_run whole rest step.bench (place + 6) (at + length bytes) (sets out at bytes) (omega (arith, length-sets out at bytes)) in
    let p : place + 6 + 6 * length rest ≡ place + 6 * suc (length rest) = omega arith in
    let n : at + length bytes + length later ≡ at + length (bytes ++ later) = omega arith in
    rw (answered, le-ltb (length out - at) (length bytes) fits, sets_append out at bytes later, ← p, ← n) more

-- A replay whose bench does not open, and one whose bench does.
module _ (cores : ℕ) (table : Table) (calls out : List ℕ) (r : Opening) (er : r ≡ opening_of cores table) where
  pub replay_not_opened : (fault : Fault) → r.found ≡ Err fault → replay cores table calls out ≡ record { answer = Err (NotOpened fault); out = out }
  unfolding opening_of replay replay_after
  replay_not_opened fault e = rw (checked_err (list_fault cores (rows_of table)) fault (sym (ap (λ o. o.found) er) ∙ e), replay_after)

  pub replay_opened : r.found ≡ Ok tt → replay cores table calls out ≡ replay_from r.bench calls out
  unfolding opening_of replay replay_after
  replay_opened e =
      let sound = sym (ap (λ o. o.found) er) ∙ e in
      let None-found = checked_ok (list_fault cores (rows_of table)) sound in
      let opened_bench : r.bench ≡ empty_bench cores table = ap (λ o. o.bench) (er ∙ opening_sound cores table sound) in
      rw (opened_bench, None-found, replay_after)

pub ruleset replay_cases = (replay_not_opened, replay_opened)
