-- The calls on a bench: opening, release, tick. A refused call changes nothing.
use Rattle.std.specs.Prelude.{ℕ, suc, ◌-◌, List, [], length, take, set, replicate, Some, Ok, Err}
use Rattle.std.proofs.Math.Option.{Option, none, some}
use Rattle.laws.specs.Checks.{first_failing}
use Rattle.quantities.specs.Limits.{row_capacity}
use Rattle.quantities.specs.Table.{rows_of, empty_table}
use Rattle.quantities.specs.Checks.{list_fault, checked_of}
use Rattle.quantities.specs.declared.Table.{Table}
use Rattle.quantities.specs.declared.Fault.{Fault}
use Rattle.bench.specs.declared.RowState.{RowState}
use Rattle.bench.specs.declared.Bench.{Bench}
use Rattle.bench.specs.declared.Refusal.{Refusal}
use Rattle.bench.specs.declared.Finish.{Finish}
use Rattle.bench.specs.declared.Opening.{Opening}
use Rattle.bench.specs.declared.Released.{Released}
use Rattle.bench.specs.declared.Ticked.{Ticked}
use Rattle.bench.specs.State.{idle, rows}
use Rattle.bench.specs.Refusal.{Outcome, release_tests, tick_tests}
use Rattle.bench.specs.Serving.{units, worked, finished}
use Rattle.bench.specs.Ended.{finishes_of}

-- the empty bench of a table: instant 0, and no row was ever released
unfoldable pub empty_bench : (cores : ℕ) → Table → Bench
empty_bench cores table =
    record { cores = cores; table = table; now = record { 0 = 0 }; states = replicate row_capacity idle }

-- what stands for a bench where an opening is refused: no cores and no rows, so that each call on it gives 29
unfoldable pub no_bench : Bench
no_bench = empty_bench 0 empty_table

-- An opening: no bench where checks 1 to 6 find a fault, else the empty bench of the table.
unfoldable pub opened_after : Option Fault → (cores : ℕ) → Table → Option Bench
opened_after (some fault) cores table = none
opened_after none cores table = some (empty_bench cores table)

unfoldable pub opened : (cores : ℕ) → Table → Option Bench
opened cores table = opened_after (list_fault cores (rows_of table)) cores table

-- The answer to a call and the bench after it: taken or refused, and the polls that ended.
pub record Step : Type 0 where
  pub outcome : Outcome
  pub finishes : List Finish
  pub bench : Bench

-- a call that does `step` unless there is a refusal: then nothing changes
unfoldable pub unless_refused : Option Refusal → Step → Bench → Step
unless_refused none step b = step
unless_refused (some why) step b = record { outcome = Err why; finishes = []; bench = b }

-- a poll that starts with this demand at an instant
abbrev pub fresh : (now demand : ℕ) → RowState
fresh now demand =
    record { last = Some (record { 0 = now }); demand = record { 0 = demand }; left = record { 0 = demand } }

-- the bench with a poll of `demand` started at `place`
unfoldable pub started : Bench → (place demand : ℕ) → Bench
started b place demand =
    record {
      cores = b.cores;
      table = b.table;
      now = b.now;
      states = set b.states (place - 1) (fresh b.now.0 demand);
    }

-- Release: a poll of `demand` at `place` starts at the present instant.
unfoldable pub release : Bench → (place demand : ℕ) → Step
release b place demand =
    unless_refused (first_failing (release_tests b place demand))
    (record { outcome = Ok tt; finishes = []; bench = started b place demand })
    b

-- the units that the rows of the bench get in a tick: only the states beside the table's rows count
unfoldable pub served : Bench → List ℕ
served b = units b.cores (take (length (rows b)) b.states)

-- the bench an instant later, with these states of its rows
abbrev pub later : Bench → List RowState → Bench
later b states =
    record { cores = b.cores; table = b.table; now = record { 0 = suc b.now.0 }; states = states }

-- the bench after a tick: rows have got their units, and the instant is one later
unfoldable pub moved : Bench → Bench
moved b = later b (worked (served b) b.states)

-- a tick that is not refused: the polls that end in it are listed with the instant after growing
unfoldable pub taken : Bench → Step
taken b =
    record {
      outcome = Ok tt;
      finishes = finished (suc b.now.0) 1 (served b) b.states;
      bench = moved b;
    }

-- Tick: rows are served from the top, and the instant grows by one.
unfoldable pub tick : Bench → Step
tick b = unless_refused (first_failing (tick_tests b)) (taken b) b

-- the answers as the code's functions give them
unfoldable pub bench_or : Option Bench → Bench
bench_or none = no_bench
bench_or (some b) = b

unfoldable pub opening_of : (cores : ℕ) → Table → Opening
opening_of cores table =
    record { found = checked_of (list_fault cores (rows_of table)); bench = bench_or (opened cores table) }

unfoldable pub released_of : Step → Released
released_of step = record { outcome = step.outcome; bench = step.bench }

unfoldable pub ticked_of : Step → Ticked
ticked_of step =
    record { outcome = step.outcome; finishes = finishes_of step.finishes; bench = step.bench }
