-- The frames that answer_frames has taken were answered with success.
use Rattle.std.proofs.Common.{ℕ, List}
use Rattle.streams.specs.Frames.{Answered}
use Rattle.streams.proofs.answer_frames.Given as goal

abbrev pub invariant-loop : goal.invariant-loop
invariant-loop g l =
    goal.F-IsAlwaysCallable g l.answer
    × ((frames : List (List ℕ)) × Answered g.F.FnMut (g.R.Read.remaining l.initial.input) (g.R.Read.remaining l.input) l.initial.answer l.answer frames)
