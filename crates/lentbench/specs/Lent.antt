-- What a call on a lent bench leaves and answers, in the words of the bench's own steps.
use Rattle.std.specs.Prelude.{ℕ, zero, suc, ◌≡◌, List, [], ◌∷◌}
use Rattle.bench.specs.Ended.{finishes_of}
use Rattle.bench.specs.History.{Call, releases, ticks, after, steps}
use Rattle.bench.specs.Step.{Step, release, tick}
use Rattle.bench.specs.declared.Bench.{Bench}
use Rattle.bench.specs.Refusal.{Outcome}
use Rattle.lentbench.specs.declared.TickAnswer.{TickAnswer}

-- A release on a lent bench is a step: the bench is left as the step leaves it, and the outcome is the step's.
pub record LentRelease (step : Step) (left : Bench) (outcome : Outcome) : Type 0 where
  pub leaves : left ≡ step.bench
  pub answers : outcome ≡ step.outcome

-- the answer to a tick that is this step
abbrev pub tick_answer_of : Step → TickAnswer
tick_answer_of step = record { outcome = step.outcome; finishes = finishes_of step.finishes }

-- A tick of a lent bench is a step: the bench is moved on as the step moves it, and the answer is the step's.
pub record LentTick (step : Step) (moved : Bench) (answer : TickAnswer) : Type 0 where
  pub leaves : moved ≡ step.bench
  pub answers : answer ≡ tick_answer_of step

-- the history of this many ticks
unfoldable pub ticks_for : ℕ → List Call
ticks_for zero = []
ticks_for (suc n) = ticks ∷ ticks_for n

-- What the caller hears of a call: the outcome of a release, or the answer to a tick.
pub data LentAnswer : Type 0 where
  to_release : Outcome → LentAnswer
  to_tick : TickAnswer → LentAnswer

-- what is heard of a call that is this step
abbrev pub answer_to : Call → Step → LentAnswer
answer_to (releases place demand) step = to_release step.outcome
answer_to ticks step = to_tick (tick_answer_of step)

-- what is heard of one call after another
unfoldable pub answers_to : List Call → List Step → List LentAnswer
answers_to [] done = []
answers_to (call ∷ calls) [] = []
answers_to (call ∷ calls) (step ∷ done) = answer_to call step ∷ answers_to calls done

-- The caller's loop: a bench lent to one call after another, the bench at the end, and the answers heard on the way.
pub data LentRun : Bench → List Call → Bench → List LentAnswer → Type 0 where
  over : {b : Bench} → LentRun b [] b []
  released : {b c d : Bench} {place demand : ℕ} {outcome : Outcome} {calls : List Call} {heard : List LentAnswer}
      → LentRelease (release b place demand) c outcome
      → LentRun c calls d heard
      → LentRun b (releases place demand ∷ calls) d (to_release outcome ∷ heard)
  ticked : {b c d : Bench} {answer : TickAnswer} {calls : List Call} {heard : List LentAnswer}
      → LentTick (tick b) c answer
      → LentRun c calls d heard
      → LentRun b (ticks ∷ calls) d (to_tick answer ∷ heard)

-- The run of a history: the bench is the one after it, and what is heard are the answers of its steps.
pub record RunsHistory (b : Bench) (calls : List Call) (end : Bench) (heard : List LentAnswer) : Type 0 where
  pub ends : end ≡ after b calls
  pub hears : heard ≡ answers_to calls (steps b calls)
