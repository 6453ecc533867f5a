-- The contracts of the functions that are lent a bench or a list of rows ensure what the promises say. The
-- borrow checker covers no call that hands on such a loan, so each contract is taken as it stands.
use Prim.Native.Nat.{ℕ, zero, suc}
use mathlib.Core.Path.{◌≡◌, refl, ◌∙◌}
use mathlib.Core.List.{List}
use lib.ListN.{length}
use seplogic.Ra.Ura.{Ura}
use base.Logic.{SProp, ent, emp, id⊢}
use base.Fml.{Lft}
use prog.Memory.{Memory}
use prog.Routine.{Routine}
use types.Logic.{Logic}
use contract.Monad.{Fun, fact, fact_mono}
use denote.Ref.{Bor, MutBor}
use Rattle.quantities.specs.declared.Row.{Row}
use Rattle.quantities.specs.declared.Ticks.{Ticks}
use Rattle.windows.specs.Answer.{judged_into}
use Rattle.windows.specs.declared.Answer.{Answer}
use Rattle.quantities.specs.Lengths.{numbers}
use Rattle.bench.specs.declared.Bench.{Bench}
use Rattle.bench.specs.Refusal.{Outcome}
use Rattle.bench.specs.Step.{Step, release, served, moved, taken, tick, released_of, ticked_of}
use Rattle.bench.specs.History.{ticks as a_tick, after}
use Rattle.bench.proofs.Units.{length_worked}
use Rattle.bench.proofs.Steps.{CallCase, refused, ticked, call_case}
use Rattle.lentrows.specs.Lent.{LentAnalysis}
use Rattle.lentbench.specs.declared.TickAnswer.{TickAnswer as LentTickAnswer}
use Rattle.lentbench.specs.Lent.{LentRelease, LentTick, ticks_for}
use Rattle.lentbench.specs.contracts.release as lent_release
use Rattle.lentbench.specs.contracts.tick as lent_tick
use Rattle.lentbench.specs.contracts.run as lent_run
use Rattle.lentrows.specs.contracts.analyse_list as lent_list
use Rattle.rowpages.proofs.Lent.{of_lengths, lent_turned_away, lent_judged}
use Rattle.rowpages.specs.Lent.{LentOutcome}
use Rattle.promised.specs.Promised.{ReleaseAnswer, TickAnswer, RunsFor, over, one_more}
use Rattle.promised.proofs.Promised.{release_answer, tick_answer}

-- what is said of the step by value, said of the lent bench
of_release : (b : Bench) (place demand : ℕ) (left : Bench) (r : Outcome) → length b.states ≡ 32
    → LentRelease (release b place demand) left r
    → ReleaseAnswer b place demand (record { outcome = r; bench = left })
unfolding released_of
of_release b place demand left r many given =
    release_answer b place demand _ many (rw (given.answers, given.leaves) refl)

of_tick : (b left : Bench) (r : LentTickAnswer) → length b.states ≡ 32 → LentTick (tick b) left r
    → TickAnswer b (record { outcome = r.outcome; finishes = r.finishes; bench = left })
unfolding ticked_of
of_tick b left r many given = tick_answer b _ many (rw (given.answers, given.leaves) refl)

-- a tick leaves as many states as there were
same_many : (b : Bench) → length (tick b).bench.states ≡ length b.states
unfolding taken moved
same_many b = at (call_case b a_tick)
  where
    at : {step : Step} → CallCase b a_tick step → length step.bench.states ≡ length b.states
    at (refused why q) = refl
    at (ticked q may) = length_worked (served b) b.states

of_run : (n : ℕ) (b : Bench) → length b.states ≡ 32 → RunsFor n b (after b (ticks_for n))
unfolding after ticks_for ticked_of
of_run zero b many = over
of_run (suc n) b many =
    one_more (ticked_of (tick b)) (tick_answer b _ many refl) (of_run n (tick b).bench (same_many b ∙ many))

of_list : (cores : ℕ) (rows : List Row) (before after : List Ticks) (r : Answer)
    → LentAnalysis (judged_into cores (length before) rows) (numbers before) (numbers after) r
    → LentOutcome cores rows (numbers before) (numbers after) r
of_list cores rows before after r given =
    let lent = of_lengths.analyse_list cores rows before after r given in
    record {
      judges = λ range room. lent_judged cores rows (numbers before) (numbers after) r lent range room;
      faulty = λ one first. lent_turned_away cores rows (numbers before) (numbers after) r one lent first;
    }

-- `b` is the lent bench at entry and `left` at exit. A bench of the code has 32 states.
module _ {M : Type 1} {𝓤 : Ura M} (𝓛 : Logic 𝓤) (mem : Memory → SProp 𝓤)
    (run : Routine → Fun 𝓤) where
  pub release_held : (κ : Lft) (b left : MutBor Bench) (place : ℕ) (demand : Ticks) (r : Outcome)
      → length b.now.states ≡ 32
      → ent 𝓤
      ((lent_release.clauses 𝓛 mem run (κ, tt) (b, (place, (demand, tt)))).ensures tt r
      (left, (place, (demand, tt))))
      (fact 𝓤 (ReleaseAnswer b.now place demand.0 (record { outcome = r; bench = left.now })))
  release_held κ b left place demand r many =
      fact_mono 𝓤 _ _ (of_release b.now place demand.0 left.now r many)

  pub tick_held : (κ : Lft) (b left : MutBor Bench) (r : LentTickAnswer) → length b.now.states ≡ 32
      → ent 𝓤 ((lent_tick.clauses 𝓛 mem run (κ, tt) (b, tt)).ensures tt r (left, tt))
      (fact 𝓤
      (TickAnswer b.now (record { outcome = r.outcome; finishes = r.finishes; bench = left.now })))
  tick_held κ b left r many = fact_mono 𝓤 _ _ (of_tick b.now left.now r many)

  pub run_held : (κ : Lft) (b left : MutBor Bench) (ticks : Ticks) (r : Unit {0}) → length b.now.states ≡ 32
      → ent 𝓤 ((lent_run.clauses 𝓛 mem run (κ, tt) (b, (ticks, tt))).ensures tt r (left, (ticks, tt)))
      (fact 𝓤 (RunsFor ticks.0 b.now left.now))
  run_held κ b left ticks r many =
      fact_mono 𝓤 _ _
      (λ (is : left.now ≡ after b.now (ticks_for ticks.0)). rw is (of_run ticks.0 b.now many))

  pub list_held : (κ κ' : Lft) (cores : ℕ) (rows rows' : Bor (List Row)) (bounds left : MutBor (List Ticks))
      → (r : Answer)
      → ent 𝓤
      ((lent_list.clauses 𝓛 mem run (κ, (κ', tt)) (cores, (rows, (bounds, tt)))).ensures tt r
      (cores, (rows', (left, tt))))
      (fact 𝓤 (LentOutcome cores rows.now (numbers bounds.now) (numbers left.now) r))
  list_held κ κ' cores rows rows' bounds left r =
      fact_mono 𝓤 _ _ (of_list cores rows.now bounds.now left.now r)

  -- And none of them asks anything of its caller.
  pub release_asks_nothing : (κ : Lft) (b : MutBor Bench) (place : ℕ) (demand : Ticks)
      → ent 𝓤 (emp 𝓤) ((lent_release.clauses 𝓛 mem run (κ, tt) (b, (place, (demand, tt)))).requires tt)
  release_asks_nothing κ b place demand = id⊢ 𝓤 _

  pub tick_asks_nothing : (κ : Lft) (b : MutBor Bench)
      → ent 𝓤 (emp 𝓤) ((lent_tick.clauses 𝓛 mem run (κ, tt) (b, tt)).requires tt)
  tick_asks_nothing κ b = id⊢ 𝓤 _

  pub run_asks_nothing : (κ : Lft) (b : MutBor Bench) (ticks : Ticks)
      → ent 𝓤 (emp 𝓤) ((lent_run.clauses 𝓛 mem run (κ, tt) (b, (ticks, tt))).requires tt)
  run_asks_nothing κ b ticks = id⊢ 𝓤 _

  pub list_asks_nothing : (κ κ' : Lft) (cores : ℕ) (rows : Bor (List Row)) (bounds : MutBor (List Ticks))
      → ent 𝓤 (emp 𝓤)
      ((lent_list.clauses 𝓛 mem run (κ, (κ', tt)) (cores, (rows, (bounds, tt)))).requires tt)
  list_asks_nothing κ κ' cores rows bounds = id⊢ 𝓤 _
