-- One name that opens the bench and its histories, and what they rest on: with it a case in numbers computes.
use Rattle.quantities.specs.Computing.{checks_compute}
use Rattle.bench.specs.State.{last_broken, row_broken, rows_broken, is_fault, broken}
use Rattle.bench.specs.Refusal.{too_soon, release_tests, tick_tests}
use Rattle.bench.specs.Serving.{unit, units, after_units, worked, ends, since, finish_of, finished}
use Rattle.bench.specs.Step.{empty_bench, opened_after, opened, unless_refused, started, release}
use Rattle.bench.specs.Step.{served, moved, taken, tick}
use Rattle.bench.specs.History.{after, steps}

unfoldable pub bench_computes : Unit {0}
unfolding checks_compute last_broken row_broken rows_broken is_fault broken too_soon release_tests
    tick_tests unit units after_units worked ends since finish_of finished empty_bench opened_after opened unless_refused started
    release served moved taken tick after steps
bench_computes = tt
