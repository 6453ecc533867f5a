-- Fake benches of document 01, which the tick rule has to catch.
use Rattle.std.specs.Prelude.{ℕ, zero, suc, ◌≡◌, [], map, length, Ok}
use Rattle.quantities.specs.Limits.{row_capacity}
use Rattle.bench.specs.declared.Bench.{Bench}
use Rattle.bench.specs.declared.Finish.{Finish}
use Rattle.bench.specs.Step.{Step, later, tick}
use Rattle.bench.specs.History.{ticks}
use Rattle.bench.specs.Rules.{PermittedCall, TicksByRule}

-- the bench one instant later, with no row served
unfoldable pub idled : Bench → Step
idled b = record { outcome = Ok tt; finishes = []; bench = later b b.states }

-- serves rightly in its first tick and idles later
unfoldable pub once : Bench → Step
once b = elim b.now.0 [ zero ↦ tick b | suc n ↦ idled b ]

-- a poll with the clock's reading in the place of its response
unfoldable pub invented : (instant : ℕ) → Finish → Finish
invented instant poll = record { place = poll.place; response = record { 0 = instant } }

-- ticks rightly and invents response times
unfoldable pub inventing : Bench → Step
inventing b =
    let step = tick b in
    record {
      outcome = step.outcome;
      finishes = map (invented step.bench.now.0) step.finishes;
      bench = step.bench;
    }

-- The rule holds for neither,
abbrev pub FakeTicksCaught : Type 0
FakeTicksCaught = (TicksByRule once → ⊥) × (TicksByRule inventing → ⊥)

-- nor for any other function that ticks in another way than ours, on a bench where a tick is permitted.
abbrev pub NoOtherTick : Type 0
NoOtherTick =
    (run : Bench → Step) (b : Bench)
    → length b.states ≡ row_capacity → PermittedCall b ticks → (run b ≡ tick b → ⊥) → TicksByRule run → ⊥
