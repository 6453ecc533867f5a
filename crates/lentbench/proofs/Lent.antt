-- What the statements of the calls on a lent bench say: one outcome, nothing changed by a refused call, and a loop of them.
use Prim.Native.Nat.{ℕ}
use mathlib.Core.Path.{◌≡◌, refl, sym, ap, ◌∙◌}
use mathlib.Core.List.{List}
use Rattle.std.specs.Prelude.{Err}
use Rattle.bench.specs.History.{Call, releases, ticks, after, steps}
use Rattle.bench.specs.Step.{Step, release, tick}
use Rattle.bench.specs.declared.Bench.{Bench}
use Rattle.bench.specs.declared.Refusal.{Refusal}
use Rattle.bench.specs.Refusal.{Outcome}
use Rattle.bench.proofs.Steps.{refused_same}
use Rattle.lentbench.specs.Lent.{LentRelease, LentTick, LentAnswer, answers_to, LentRun, over, released, ticked, RunsHistory}
use Rattle.lentbench.specs.declared.TickAnswer.{TickAnswer}

-- One outcome: any two that meet the statement are equal.
pub one_release : (step : Step) (left left' : Bench) (outcome outcome' : Outcome)
    → LentRelease step left outcome → LentRelease step left' outcome' → (left ≡ left') × (outcome ≡ outcome')
one_release step left left' outcome outcome' a b = (a.leaves ∙ sym b.leaves, a.answers ∙ sym b.answers)

pub one_tick : (step : Step) (left left' : Bench) (answer answer' : TickAnswer)
    → LentTick step left answer → LentTick step left' answer' → (left ≡ left') × (answer ≡ answer')
one_tick step left left' answer answer' a b = (a.leaves ∙ sym b.leaves, a.answers ∙ sym b.answers)

-- A refused call leaves the lent bench as it was.
pub refused_release_keeps : (b left : Bench) (place demand : ℕ) (why : Refusal)
    → LentRelease (release b place demand) left (Err why) → left ≡ b
refused_release_keeps b left place demand why meets =
    meets.leaves ∙ ap (λ (step : Step). step.bench) (refused_same b (releases place demand) why (sym meets.answers))

pub refused_tick_keeps : (b left : Bench) (answer : TickAnswer) (why : Refusal) → answer.outcome ≡ Err why
    → LentTick (tick b) left answer → left ≡ b
refused_tick_keeps b left answer why refused meets =
    meets.leaves
    ∙ ap (λ (step : Step). step.bench)
    (refused_same b ticks why (sym (ap (λ (a : TickAnswer). a.outcome) meets.answers) ∙ refused))

-- The caller's loop is the run of its history, so that what is proved of histories holds of it.
pub lent_run : {b d : Bench} {calls : List Call} {heard : List LentAnswer} → LentRun b calls d heard
    → RunsHistory b calls d heard
unfolding after steps answers_to
lent_run over = record { ends = refl; hears = refl }
lent_run (released {calls = calls} one rest) =
    let later = lent_run rest in
    record {
      ends = later.ends ∙ ap (λ (c : Bench). after c calls) one.leaves;
      hears = rw (later.hears, one.leaves, one.answers) refl;
    }
lent_run (ticked {calls = calls} one rest) =
    let later = lent_run rest in
    record {
      ends = later.ends ∙ ap (λ (c : Bench). after c calls) one.leaves;
      hears = rw (later.hears, one.leaves, one.answers) refl;
    }
