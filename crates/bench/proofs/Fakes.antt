-- The tick rule is false for each fake bench: one board at instant 1 shows both.
use Prim.Native.Nat.{ℕ}
use native.Mathlib.Omega.{arith}
use mathlib.Core.Logic.{◌⊎◌, inl, inr}
use mathlib.Core.Path.{◌≡◌, refl, ap}
use mathlib.Core.List.{[], ◌∷◌}
use lib.ListN.{replicate}
use Rattle.quantities.specs.Row.{row_of, no_row}
use Rattle.quantities.specs.Table.{rows_of}
use Rattle.laws.specs.Checks.{first_failing}
use Rattle.quantities.specs.Checks.{row_checks, rows_checks, list_checks, fault_from, list_fault}
use Rattle.quantities.specs.declared.Table.{Table}
use Rattle.bench.specs.declared.Bench.{Bench}
use Rattle.bench.specs.declared.Finish.{Finish}
use Rattle.bench.specs.State.{idle, work, state_at, last_broken, row_broken, rows_broken, is_fault, broken}
use Rattle.bench.specs.Refusal.{tick_tests, refusal_paper}
use Rattle.bench.specs.Serving.{unit, units, workers, after_units, worked, ends, since, finish_of, finished}
use Rattle.bench.specs.Step.{empty_bench, fresh, unless_refused, later, served, moved, taken, tick}
use Rattle.bench.specs.History.{ticks, call_tests}
use Rattle.bench.specs.TickRule.{Gets, PollEnds}
use Rattle.bench.specs.Rules.{call_checks, PermittedCall, TicksByRule}
use Rattle.bench.specs.Fakes.{idled, once, invented, inventing, FakeTicksCaught, NoOtherTick}
use Rattle.bench.proofs.Rules.{ticks_by_rule}
use Rattle.bench.proofs.OneStep.{one_tick}

-- one core, and one row that was released with one unit of work at instant 1, the present one
abbrev board : Table
board = record { count = 1; rows = row_of 1 4 4 ∷ replicate 31 no_row }

abbrev b : Bench
b = later (empty_bench 1 board) (fresh 1 1 ∷ replicate 31 idle)

may : PermittedCall b ticks
unfolding empty_bench call_checks call_tests tick_tests refusal_paper broken rows_broken row_broken last_broken is_fault
    rows_of row_checks rows_checks list_checks first_failing fault_from list_fault
may = (refl, (refl, tt))

gets : Gets b 1
unfolding empty_bench rows_of workers
gets = record { first = omega arith; last = omega arith; has_work = omega arith; among_highest = omega arith }

-- the poll that ends in the tick: its response is one tick
abbrev poll : (response : ℕ) → Finish
poll response = record { place = 1; response = record { 0 = response } }

ends_in : PollEnds b (poll 1)
unfolding empty_bench
ends_in =
    record {
      gets = gets;
      last_unit = refl;
      release = record { 0 = 1 };
      released = refl;
      response = refl;
    }

-- The row gets nothing from the one,
once_idles : work (state_at (once b).bench 1) ≡ 1
unfolding empty_bench once idled
once_idles = refl

once_caught : TicksByRule once → ⊥
unfolding empty_bench after_units
once_caught rule =
    let served = ap work ((rule b refl may).one_unit 1 gets) in
    omega (arith, served, once_idles)

-- and the other says two ticks.
two_said : (inventing b).finishes ≡ poll 2 ∷ []
unfolding empty_bench inventing invented tick unless_refused taken served moved first_failing tick_tests broken rows_broken
    row_broken last_broken is_fault rows_of row_checks rows_checks list_checks fault_from list_fault
    unit units after_units worked ends since finish_of finished
two_said = refl

inventing_caught : TicksByRule inventing → ⊥
inventing_caught rule = differ (rw two_said at ((rule b refl may).listed (poll 1) ends_in))
  where
    differ : (poll 1 ≡ poll 2) ⊎ ⊥ → ⊥
    differ (inl same) = let z : ◌≡◌ {A = ℕ} 1 2 = ap (λ (f : Finish). f.response.0) same in omega arith
    differ (inr none) = none

pub fake_ticks_caught : FakeTicksCaught
fake_ticks_caught = (once_caught, inventing_caught)

pub no_other_tick : NoOtherTick
no_other_tick run c full may differs rule =
    differs (one_tick c (run c) (tick c) (rule c full may) (ticks_by_rule c full may))
