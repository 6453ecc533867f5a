-- One name that opens the answer to a list, and what it rests on: with it a case in numbers computes.
use Rattle.quantities.specs.Computing.{checks_compute}
use Rattle.windows.specs.Window.{plain, carry, limit, interference}
use Rattle.windows.specs.Choice.{most, passes}
use Rattle.windows.specs.Least.{first_of, least}
use Rattle.windows.specs.Bound.{window, bounds_below}
use Rattle.windows.specs.Answer.{verdict, judged_after, judged, judged_into, bounds_after, answer_paper}

unfoldable pub answers_compute : Unit {0}
unfolding checks_compute plain carry limit interference most passes first_of least window bounds_below verdict
    judged_after judged judged_into bounds_after answer_paper
answers_compute = tt
