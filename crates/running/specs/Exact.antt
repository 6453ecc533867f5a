-- A bound that is met exactly: document 01's bench case, in which the third row takes all of its 12 ticks.
use Rattle.std.specs.Prelude.{◌<◌, ◌≡◌, refl, List, [], ◌∷◌, replicate}
use Rattle.std.proofs.Math.Option.{some}
use Rattle.std.proofs.Common.{arith}
use Rattle.quantities.specs.declared.Table.{Table}
use Rattle.quantities.specs.Row.{row_of, no_row}
use Rattle.bench.specs.declared.Bench.{Bench}
use Rattle.bench.specs.declared.Finish.{Finish}
use Rattle.bench.specs.Step.{empty_bench, opened, tick}
use Rattle.bench.specs.History.{Call, releases, ticks, after}
use Rattle.windows.specs.Computing.{answers_compute}
use Rattle.bench.specs.Computing.{bench_computes}
use Rattle.running.specs.Running.{bounds_of, Holds}

-- one core, and rows (1,4,4) (2,6,6) (5,12,12)
abbrev pub board : Table
board = record { count = 3; rows = row_of 1 4 4 ∷ row_of 2 6 6 ∷ row_of 5 12 12 ∷ replicate 29 no_row }

abbrev pub start : Bench
start = empty_bench 1 board

-- full demands at instant 0, row 1 again at 4 and 8, row 2 at 6; the clock stands at 11
abbrev pub calls : List Call
calls =
    releases 1 1
    ∷ releases 2 2
    ∷ releases 3 5
    ∷ ticks ∷ ticks ∷ ticks ∷ ticks
    ∷ releases 1 1
    ∷ ticks ∷ ticks
    ∷ releases 2 2
    ∷ ticks ∷ ticks
    ∷ releases 1 1
    ∷ ticks ∷ ticks ∷ ticks
    ∷ []

-- The promise speaks of this bench: it was opened, and its rows have the bounds 1, 3 and 12.
pub is_opened : opened 1 board ≡ some start
unfolding bench_computes
is_opened = refl

pub has_bounds : bounds_of 1 board ≡ 1 ∷ 3 ∷ 12 ∷ []
unfolding answers_compute
has_bounds = refl

-- the third row ends its poll 12 ticks after its release
abbrev pub third_ends : Finish
third_ends = record { place = 3; response = record { 0 = 12 } }

-- In the next tick the third row ends its poll, exactly at its bound. The bound 11 does not hold for it.
pub met_exactly : ((tick (after start calls)).finishes ≡ third_ends ∷ []) × (Holds start calls 3 11 → ⊥)
unfolding bench_computes
met_exactly = (refl, λ holds. let late : 11 < 11 = holds.over_in_time (omega arith) in omega arith)
