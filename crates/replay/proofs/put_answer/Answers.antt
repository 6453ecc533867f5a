-- put_answer stores number, place and count, and then the polls.
use native.Mathlib.Omega.{arith}
use mathlib.Core.Path.{◌≡◌, ◌∙◌}
use lib.ListN.{length, length-take}
use Rattle.bench.specs.Refusal.{outcome_paper}
use Rattle.replay.proofs.Writes.{counted, answer_written}
use Rattle.replay.proofs.put_answer.Goals as goal
use Rattle.replay.proofs.put_answer.Goals.{in-Ok, in-Err}

pub returns : goal.returns
unfolding outcome_paper
returns c =
    let polls = counted c.args.polls in
    let all : length polls ≡ c.args.polls.count = length-take c.args.polls.count c.args.polls.list ∙ omega arith in
    let number : c.match-outcome.number.0 ≡ (outcome_paper c.args.outcome).number =
    elim c.match-outcome.branch [ in-Ok w ↦ simp (w.number-is, w.in-Ok.is) | in-Err w ↦ simp (w.number-is, w.in-Err.is) w.number.ensures ] in
    let place : c.match-outcome.number.1 ≡ (outcome_paper c.args.outcome).place =
    elim c.match-outcome.branch [ in-Ok w ↦ simp (w.number-is, w.in-Ok.is) | in-Err w ↦ simp (w.number-is, w.in-Err.is) w.place.ensures ] in
    c.put_polls.ensures
    ∙ answer_written c.args.out.now c.args.at _ c.args.outcome polls c.copy_from_slice.new.self (omega arith) (omega arith)
    (simp (c.copy_from_slice.ensures.after, c.low_byte.ensures, c.low_byte-2.ensures, number, place, all))
