-- Openings, the clock's end and what the functions answer: what specs/Calls.antt says of them holds.
use Prim.Native.Nat.{◌-◌, ◌≤◌}
use native.Mathlib.Omega.{arith}
use mathlib.Core.Path.{◌≡◌, refl, ap, ◌∙◌}
use mathlib.Core.List.{List, [], ◌∷◌}
use mathlib.Core.Option.{some}
use lib.Dec.{eqb}
use lib.ListN.{length, replicate, length-append, length-replicate}
use lib.Seq.{take-append_seam, drop-append_seam}
use borrow.Author.Tests.{eq-eqb, ne_eqb}
use Rattle.laws.specs.Checks.{first_failing}
use Rattle.laws.proofs.Checks.{failing_behind}
use Rattle.quantities.specs.Paper.{paper}
use Rattle.quantities.specs.Table.{rows_of, empty_table}
use Rattle.quantities.specs.Checks.{check, list_fault, list_checks, checked_of}
use Rattle.bench.specs.declared.Bench.{Bench}
use Rattle.bench.specs.declared.Finish.{Finish}
use Rattle.bench.specs.State.{broken}
use Rattle.bench.specs.Refusal.{refusal_paper, outcome_paper, outcome_of}
use Rattle.bench.specs.Ended.{no_finish, finishes_of}
use Rattle.bench.specs.Step.{empty_bench, no_bench, Step, opening_of, taken, tick, released_of, ticked_of}
use Rattle.bench.specs.History.{Call, releases, ticks, call_tests, do_call, after}
use Rattle.bench.proofs.State.{whole_unbroken}
use Rattle.bench.proofs.Kept.{opened_empty, kept_opened, kept_after}
use Rattle.bench.proofs.Steps.{CallCase, refused, released, ticked, call_case}
use Rattle.bench.proofs.Open.{no_bench_broken}
use Rattle.bench.proofs.Rules.{faulty_table_not_opened, sound_table_opened, opened_holds as kept_opening}
use Rattle.replay.proofs.Turns.{polls_few}
use Rattle.rowpages.specs.Lists.{fault_at}
use Rattle.benchpages.specs.Calls.{blank_bench, Refuses, RefusalNumbers}
use Rattle.benchpages.specs.Calls.{OpeningRefused, OpeningTaken, OpenedHolds, ClockTo1000000000}
use Rattle.benchpages.specs.Calls.{ListsPolls, EndedListed, CallsAnswered}
use Rattle.rowpages.proofs.Lists.{list_order_lem, fault_of_first, sound_in_range, in_range_sound}
use Rattle.benchpages.proofs.Broken.{broken_breaks}
use Rattle.benchpages.proofs.Calls.{call_turned_away, call_taken, is_29}

pub refusal_numbers : RefusalNumbers
unfolding refusal_paper outcome_paper
refusal_numbers =
    record {
      no_such_place = λ place. refl;
      last_poll_unfinished = λ place. refl;
      fewer_than_the_gap = λ place. refl;
      demand_zero_or_above = λ place. refl;
      clock_ended = refl;
      record_broken = refl;
      of_a_refused_call = λ why. refl;
      none_of_a_taken_call = refl;
    }

-- what stands for a bench is blank, and each call on it gives 29
no_bench_blank : no_bench ≡ blank_bench
unfolding no_bench empty_bench empty_table
no_bench_blank = refl

blank_29 : (call : Call) → Refuses blank_bench 29 0 (do_call blank_bench call)
blank_29 call = rw no_bench_blank at (is_29 no_bench call (broken_breaks no_bench no_bench_broken))

pub opening_refused : OpeningRefused
unfolding list_fault opening_of checked_of
opening_refused cores table one first =
    let checks = rw (list_order_lem cores (rows_of table)) at first in
    let refused = faulty_table_not_opened cores table one checks in
    let fault : list_fault cores (rows_of table) ≡ some (fault_at one.number one.place)
    = fault_of_first (list_checks cores (rows_of table)) one checks in
    record {
      found = ap checked_of fault;
      on_paper = refused.on_paper;
      stands_for_none = refused.stands_for_none ∙ no_bench_blank;
      no_bench_holds = refused.no_bench_holds;
      no_call = blank_29;
    }

pub opening_taken : OpeningTaken
unfolding empty_bench
opening_taken cores table inside = sound_table_opened cores table (sound_in_range cores (rows_of table) inside)

pub opened_holds : OpenedHolds
unfolding empty_bench
opened_holds cores table b o =
    let holds = kept_opening cores table b o in
    record {
      in_range = in_range_sound cores (rows_of table) holds.passed;
      is_new = (opened_empty cores table b o).1;
      same_board = holds.board;
    }

pub clock_to_1000000000 : ClockTo1000000000
clock_to_1000000000 cores table start o calls =
    let b = after start calls in
    let kept = kept_after calls start (kept_opened cores table start o) in
    let whole = whole_unbroken b kept.whole in (
      (λ early. call_taken b ticks (whole, (ne_eqb b.now.0 1000000000 (λ e. omega arith), tt))),
      λ end.
          call_turned_away b ticks (paper 24 0)
          (failing_behind (check 29 0 (broken b) ∷ []) [] (paper 24 0) (eqb b.now.0 1000000000)
          (eq-eqb b.now.0 1000000000 end) (whole, tt)),
    )

-- The list of polls in the answer of a tick.
polls_listed : (polls : List Finish) → length polls ≤ 32 → ListsPolls polls (finishes_of polls)
unfolding finishes_of
polls_listed polls few =
    let blanks = replicate (32 - length polls) no_finish in
    record {
      how_many = refl;
      first = take-append_seam polls blanks;
      blank = drop-append_seam polls blanks;
      room = length-append polls blanks ∙ omega (arith, length-replicate (32 - length polls) no_finish);
    }

pub ended_listed : EndedListed
unfolding ticked_of
ended_listed = (polls_listed, λ b. polls_listed (tick b).finishes (polls_few b ticks))

-- what a judge says of a call is the call's outcome
judged_call : (b : Bench) (call : Call) → outcome_of (first_failing (call_tests b call)) ≡ (do_call b call).outcome
unfolding outcome_of taken
judged_call b call = at (call_case b call)
  where
    at : {one : Call} {step : Step} → CallCase b one step
        → outcome_of (first_failing (call_tests b one)) ≡ step.outcome
    at (refused why q) = rw q
    at (released q may) = rw q
    at (ticked q may) = rw q

pub calls_answered : CallsAnswered
unfolding call_tests released_of ticked_of
calls_answered =
    record {
      last_instant_holds = refl;
      judge_release = λ b place demand. judged_call b (releases place demand);
      judge_tick = λ b. judged_call b ticks;
      to_release = λ step. refl;
      to_tick = λ step. refl;
    }
