-- run_calls answers the calls one after the other, as far as they are calls and there is room.
use Prim.Native.Nat.{◌+◌, ◌*◌}
use native.Mathlib.Omega.{arith}
use mathlib.Core.Path.{◌≡◌, sym, ap, ◌∙◌}
use lib.ListN.{length, length-drop}
use Rattle.std.specs.Iterator.Adapters.{enumerate_count}
use Rattle.bench.specs.History.{call_of}
use Rattle.replay.proofs.Chunks.{chunk_says, chunk_next}
use Rattle.replay.proofs.Turns.{replays_first, replays_no_call, replays_last, replays_no_room, replays_next, answer_says}
use Rattle.replay.proofs.run_calls.Goals as goal

pub loop-i-init : goal.loop-i-init
loop-i-init c =
    let none : enumerate_count c.into_iter-i-iterator.result ≡ 0 = cc in
    record {
      size = cc;
      rest = rw none (cc);
      replays = rw none (replays_first c.args.bench c.args.calls.now c.args.out.now);
    }

pub loop-i-preserved : goal.loop-i-preserved
loop-i-preserved c =
    let before = c.loop-i.invariant in
    let step = c.in-Some.ensures.steps in
    let cut = rw before.size at step.0.1.1 in
    let next : 6 * enumerate_count c.next.new.self ≡ 6 * enumerate_count c.loop-i.i-iterator + 6 = omega (arith, step.2) in
    let calls = c.args.calls.now in
    let said = sym c.read_call.ensures ∙ c.in-Some-read_call.is in
    record {
      size = step.0.0 ∙ before.size;
      rest = rw next (chunk_next calls _ c.in-Some.call.now _ _ before.rest step.0.1.0 cut c.in-Some-read_call.request said);
      replays =
          rw next
          (replays_next c.args.bench calls c.args.out.now c.loop-i.out c.loop-i.bench _ c.loop-i.at before.replays c.in-Some-read_call.request
          (chunk_says calls _ c.in-Some.call.now _ _ before.rest step.0.1.0 cut ∙ said)
          c.answer-answer.result c.answer-answer.ensures (omega arith) c.put_answer.new.out c.put_answer.ensures);
    }

pub overflow_mul-size : goal.overflow_mul-size
overflow_mul-size c =
    omega (arith, (answer_says c.loop-i.bench (call_of c.in-Some-read_call.request) c.answer-answer.result c.answer-answer.ensures).few)

pub overflow_add-size : goal.overflow_add-size
overflow_add-size c =
    omega (arith, (answer_says c.loop-i.bench (call_of c.in-Some-read_call.request) c.answer-answer.result c.answer-answer.ensures).few)

pub put_answer-requires : goal.put_answer-requires
put_answer-requires c =
    let few = (answer_says c.loop-i.bench (call_of c.in-Some-read_call.request) c.answer-answer.result c.answer-answer.ensures).few in
    (few, omega arith)

pub returns-in_default : goal.returns-in_default
returns-in_default c =
    let before = c.loop-i.invariant in
    let step = c.in-Some.ensures.steps in
    let cut = rw before.size at step.0.1.1 in
    let calls = c.args.calls.now in
    let place = 6 * enumerate_count c.loop-i.i-iterator in
    let e = replays_no_call c.args.bench calls c.args.out.now c.loop-i.out c.loop-i.bench place c.loop-i.at before.replays
    (omega (arith, step.0.1.2, ap length before.rest, length-drop place calls))
    (chunk_says calls _ c.in-Some.call.now _ _ before.rest step.0.1.0 cut ∙ sym c.read_call.ensures ∙ c.in_default.is) in
    record { value = rw step.1 (sym (ap (λ r. r.answer) e)); out_after = sym (ap (λ r. r.out) e) }

pub returns-then-out-at : goal.returns-then-out-at
returns-then-out-at c =
    let before = c.loop-i.invariant in
    let step = c.in-Some.ensures.steps in
    let cut = rw before.size at step.0.1.1 in
    let calls = c.args.calls.now in
    let place = 6 * enumerate_count c.loop-i.i-iterator in
    let e = replays_no_room c.args.bench calls c.args.out.now c.loop-i.out c.loop-i.bench place c.loop-i.at before.replays c.in-Some-read_call.request
    (chunk_says calls _ c.in-Some.call.now _ _ before.rest step.0.1.0 cut ∙ sym c.read_call.ensures ∙ c.in-Some-read_call.is)
    c.answer-answer.result c.answer-answer.ensures c.if-out-at.true in
    record { value = rw step.1 (sym (ap (λ r. r.answer) e)); out_after = sym (ap (λ r. r.out) e) }

pub returns : goal.returns
returns c =
    let before = c.loop-i.invariant in
    let calls = c.args.calls.now in
    let place = 6 * enumerate_count c.loop-i.i-iterator in
    let over = c.in-None.ensures.steps.0.1.0 in
    let e = replays_last c.args.bench calls c.args.out.now c.loop-i.out c.loop-i.bench place c.loop-i.at before.replays
    (omega (arith, over, ap length before.rest, length-drop place calls)) in
    record { value = sym (ap (λ r. r.answer) e); out_after = sym (ap (λ r. r.out) e) }
