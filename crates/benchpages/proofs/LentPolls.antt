-- Demand 3 holds in the caller's loop: what is heard of each call is the answer of the bench's own step.
use Prim.Native.Nat.{ℕ, suc}
use native.Mathlib.Omega.{arith}
use mathlib.Core.Path.{◌≡◌, refl, sym, ap, ◌∙◌}
use mathlib.Core.List.{List, [], ◌∷◌, ◌++◌}
use lib.Seq.{take-append_seam}
use Rattle.std.specs.Prelude.{Option, None, Some}
use Rattle.laws.specs.Each.{Each}
use Rattle.quantities.specs.Paper.{paper}
use Rattle.quantities.specs.declared.Instant.{Instant}
use Rattle.bench.specs.declared.Bench.{Bench}
use Rattle.bench.specs.declared.Finish.{Finish}
use Rattle.bench.specs.Ended.{finishes_of}
use Rattle.bench.specs.Refusal.{outcome_paper}
use Rattle.bench.specs.Step.{Step, release, tick}
use Rattle.bench.specs.History.{Call, releases, ticks, do_call, after, steps}
use Rattle.running.specs.Running.{LessAgo, EndsInTime, NotUnfinished}
use Rattle.running.proofs.Running.{bounds_hold}
use Rattle.lentbench.specs.Lent.{LentAnswer, to_tick, LentRun, over, released, ticked}
use Rattle.lentbench.specs.Lent.{tick_answer_of, ticks_for, answer_to, answers_to}
use Rattle.lentbench.proofs.Lent.{lent_run}
use Rattle.benchpages.specs.Calls.{state_on}
use Rattle.benchpages.specs.Polls.{bound_for, ticks_among, ListsNone, EndsWithin, PollStarts}
use Rattle.benchpages.specs.LentPolls.{polls_in, outcome_in, ticks_heard, answers_heard, LentRunsOn, LentRunHears, LentRunsHistory}
use Rattle.benchpages.specs.LentPolls.{LentCallsAnswer, ReleasedWithin, LentBoundsHold, HeardWithin, LentPollsEnd}
use Rattle.benchpages.proofs.Polls.{polls_end_in_ticks}

-- The polls that a tick is heard to list are those of its step.
polls_heard : (step : Step) → polls_in (to_tick (tick_answer_of step)) ≡ step.finishes
unfolding finishes_of
polls_heard step = take-append_seam step.finishes _

-- What holds of each step of a history holds of each answer, if a call's answer has it from its step.
heard_each : (P : Step → Type 0) (Q : LentAnswer → Type 0)
    → ((call : Call) (step : Step) → P step → Q (answer_to call step))
    → (calls : List Call) (b : Bench) → Each P (steps b calls) → Each Q (answers_to calls (steps b calls))
unfolding steps answers_to
heard_each P Q from [] b each = tt
heard_each P Q from (call ∷ calls) b each =
    (from call (do_call b call) each.0, heard_each P Q from calls (do_call b call).bench each.1)

-- a property of the polls listed, where none is listed of a release
polls_each : (P : Finish → Type 0) (call : Call) (step : Step)
    → Each P step.finishes → Each P (polls_in (answer_to call step))
polls_each P (releases place demand) step each = tt
polls_each P ticks step each = rw (polls_heard step) each

-- A history is lent,
lent_history : (calls : List Call) (b : Bench)
    → LentRun b calls (after b calls) (answers_to calls (steps b calls))
unfolding after steps answers_to
lent_history [] b = over
lent_history (releases place demand ∷ calls) b =
    released (record { leaves = refl; answers = refl }) (lent_history calls (release b place demand).bench)
lent_history (ticks ∷ calls) b =
    ticked (record { leaves = refl; answers = refl }) (lent_history calls (tick b).bench)

pub lent_runs_on : LentRunsOn
lent_runs_on b calls = (after b calls, answers_to calls (steps b calls), lent_history calls b)

pub lent_runs_history : LentRunsHistory
lent_runs_history b calls end heard =
    (lent_run, λ run. rw (run.ends, run.hears) (lent_history calls b))

-- a last release that came less than the bound ago
pub less_ago : (b : Bench) (place bound : ℕ) (last : Option Instant) → (state_on b place).last ≡ last
    → LessAgo b.now.0 bound last → ReleasedWithin bound b place
less_ago b place bound None is ago = absurd ago
less_ago b place bound (Some at) is ago = record { release = at; last_release = is; less_ago = ago }

-- Demand 3.
same_heard : (b : Bench) (calls : List Call) → answers_heard b calls ≡ answers_to calls (steps b calls)
unfolding steps answers_to
same_heard b [] = refl
same_heard b (releases place demand ∷ calls) = rw (same_heard (release b place demand).bench calls) refl
same_heard b (ticks ∷ calls) = rw (same_heard (tick b).bench calls) refl

pub lent_run_hears : LentRunHears
lent_run_hears b calls end heard = (
  λ run.
      let history = (lent_runs_history b calls end heard).0 run in
      (history.ends, history.hears ∙ sym (same_heard b calls)),
  λ is. (lent_runs_history b calls end heard).1 (record { ends = is.0; hears = is.1 ∙ same_heard b calls }),
)

pub lent_bounds_hold : LentBoundsHold
lent_bounds_hold cores table start is calls end heard run place first within =
    let bound = bound_for cores table place in
    let holds = bounds_hold cores table start is calls place first within in
    let history = lent_run run in
    rw (history.ends, history.hears)
    (record {
      over_in_time = λ busy. less_ago (after start calls) place bound _ refl (holds.over_in_time busy);
      ends_in_time =
          heard_each (EndsInTime place bound) _ (λ call step. polls_each _ call step) calls start
          holds.ends_in_time;
      never_21 = heard_each (NotUnfinished place) _ outcome_of_lem calls start holds.not_unfinished;
    })
  where
    outcome_of_lem : (call : Call) (step : Step) → NotUnfinished place step
        → outcome_paper (outcome_in (answer_to call step)) ≡ paper 21 place → ⊥
    outcome_of_lem (releases other demand) step not = not
    outcome_of_lem ticks step not = not

-- The answers heard: as many ticks as there are among the calls,
ticks_heard_lem : (calls : List Call) (b : Bench)
    → ticks_heard (answers_to calls (steps b calls)) ≡ ticks_among calls
unfolding steps answers_to
ticks_heard_lem [] b = refl
ticks_heard_lem (releases place demand ∷ calls) b = ticks_heard_lem calls (release b place demand).bench
ticks_heard_lem (ticks ∷ calls) b = ap suc (ticks_heard_lem calls (tick b).bench)

-- and a tick among the calls is heard among them.
heard_at : (before later : List Call) (b : Bench)
    → answers_to (before ++ (ticks ∷ later)) (steps b (before ++ (ticks ∷ later)))
    ≡ answers_to before (steps b before)
    ++ (to_tick (tick_answer_of (tick (after b before)))
    ∷ answers_to later (steps (tick (after b before)).bench later))
unfolding after steps answers_to
heard_at [] later b = refl
heard_at (call ∷ before) later b =
    ap (λ (heard : List LentAnswer). answer_to call (do_call b call) ∷ heard)
    (heard_at before later (do_call b call).bench)

-- A poll that ends in a history is heard to end.
heard_within : (b : Bench) (more : List Call) (place instant bound : ℕ)
    → EndsWithin b more place instant bound → HeardWithin (answers_to more (steps b more)) place bound
heard_within b more place instant bound ends =
    let before = ends.before in
    let listing = tick (after b before) in
    record {
      before = answers_to before (steps b before);
      answer = tick_answer_of listing;
      later = answers_to ends.later (steps listing.bench ends.later);
      a_tick = rw ends.a_tick (heard_at before ends.later b);
      none_before =
          heard_each (λ (step : Step). ListsNone place step.finishes) _
          (λ call step. polls_each _ call step) before b ends.none_before;
      response = ends.response;
      lists = rw (polls_heard listing) ends.lists;
      ticks_passed = ends.ticks_passed ∙ ap suc (sym (ticks_heard_lem before b));
      in_time = ends.in_time;
    }

pub lent_polls_end : LentPollsEnd
lent_polls_end cores table start is calls b heard run place demand first within c lent more end then on enough
    early =
    let history = lent_run run in
    let hears = (lent_run on).hears in
    let same = history.ends in
    let leaves : c ≡ (release (after start calls) place demand).bench = rw same at lent.leaves in
    let starts : PollStarts cores table start calls place demand =
    record {
      is_opened = is;
      first = first;
      has_bound = within;
      taken = rw same at (sym lent.answers);
    } in
    let count : ticks_heard then ≡ ticks_among more = ap ticks_heard hears ∙ ticks_heard_lem more c in
    let ends =
    polls_end_in_ticks cores table start calls place demand starts more (omega arith) (rw same at early) in
    rw (hears, leaves) (heard_within _ more place _ _ ends)

pub lent_calls_answer : LentCallsAnswer
unfolding ticks_for
lent_calls_answer =
    record {
      of_release = λ b place demand left outcome.
          (λ lent. (lent.leaves, lent.answers), λ given. record { leaves = given.0; answers = given.1 });
      of_tick = λ b moved answer.
          (λ lent. (lent.leaves, lent.answers), λ given. record { leaves = given.0; answers = given.1 });
      no_ticks = refl;
      one_tick_more = λ n. refl;
    }
