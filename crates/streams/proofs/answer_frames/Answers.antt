-- answer_frames answers one frame more with success, or fails with the error of its answer.
use Rattle.std.proofs.Common.{refl, take, rules, of_calls}
use Rattle.streams.proofs.Frames.{Answered-push}
use Rattle.streams.proofs.answer_frames.Goals as goal

pub loop-preserved : goal.loop-preserved
loop-preserved g c =
    let frame = take c.in-Some.size c.read_frame.new.room in
    let called = rw c.in_ok-answer.was at c.answer.ensures in
    (search (rules, of_calls), (_, Answered-push g.F.FnMut _ _ _ _ _ _ c.loop.invariant.1.0 frame c.loop.invariant.1.1 c.in-Some.ensures.read (record { shown = _; shows = refl; called = called })))
