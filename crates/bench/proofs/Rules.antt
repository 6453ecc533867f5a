-- The rules of specs/Rules.antt, each proved under its name.
use Prim.Native.Nat.{ℕ, ◌-◌}
use native.Mathlib.Omega.{arith}
use mathlib.Core.Path.{◌≡◌, refl, sym, ap, ◌∙◌}
use mathlib.Core.Bool.{false}
use mathlib.Core.List.{List, [], ◌∷◌}
use mathlib.Core.Option.{Option, none, some}
use lib.ListN.{length, length-set}
use borrow.Author.Tests.{ne_eqb, le-ltb}
use Rattle.std.specs.Prelude.{Ok}
use Rattle.laws.proofs.Lists.{get_d_repeated}
use Rattle.quantities.specs.Limits.{row_capacity}
use Rattle.quantities.specs.Row.{cost, gap}
use Rattle.quantities.specs.Table.{rows_of}
use Rattle.laws.specs.Checks.{first_failing, FirstFailing}
use Rattle.quantities.specs.Checks.{list_checks, list_fault, checked_of}
use Rattle.quantities.specs.Paper.{Paper, checked_paper}
use Rattle.quantities.proofs.Rows.{length_rows}
use Rattle.laws.proofs.Checks.{none_fails, none_found, first_failing_lem, first_found, retold_first, retold_none}
use Rattle.laws.proofs.Tests.{not_one}
use Rattle.quantities.proofs.Sound.{sound_list_means}
use Rattle.quantities.proofs.Paper.{turned_away}
use Rattle.bench.specs.declared.Bench.{Bench}
use Rattle.bench.specs.State.{idle, rows, row_at, state_at, work}
use Rattle.bench.specs.Refusal.{too_soon, release_tests, tick_tests}
use Rattle.bench.specs.Refusal.{refusal_paper, outcome_paper}
use Rattle.bench.specs.Step.{empty_bench, opened_after, opened, bench_or, opening_of}
use Rattle.bench.specs.Step.{Step, fresh, started, release, taken, tick}
use Rattle.bench.specs.History.{Call, releases, ticks, call_tests, do_call, after}
use Rattle.bench.specs.Rules.{call_checks, PermittedCall, ReleaseChecks, TickChecks}
use Rattle.bench.specs.Rules.{CallTurnedAway, CallTaken, RefusedCallHasFault, RefusedUnchanged}
use Rattle.bench.specs.Rules.{FaultyTableNotOpened, SoundTableOpened, OpenedHolds}
use Rattle.bench.specs.Rules.{ReleasesByRule, TicksByRule}
use Rattle.bench.specs.Rules.{Ready, ExactGapPermitted, FirstReleasePermitted}
use Rattle.bench.specs.Rules.{BooksBalance, NeverBroken, ClockEnds}
use Rattle.bench.proofs.State.{whole_of, sound_fits}
use Rattle.bench.proofs.Permitted.{may_release, may_tick, tick_24}
use Rattle.bench.proofs.Gaps.{gap_over, first_never_soon}
use Rattle.bench.proofs.Steps.{refused_step_lem, taken_step_lem, refused_same, same_board}
use Rattle.bench.proofs.Kept.{Kept, opened_empty, opened_no_29}
use Rattle.bench.proofs.Balance.{started_here, started_elsewhere, empty_balance}
use Rattle.bench.proofs.TickRule.{taken_rule}

-- The checks of a call, written out.
pub release_checks : ReleaseChecks
unfolding call_checks call_tests release_tests refusal_paper
release_checks b place demand = refl

pub tick_checks : TickChecks
unfolding call_checks call_tests tick_tests refusal_paper
tick_checks b = refl

permitted : (b : Bench) (call : Call) → PermittedCall b call → first_failing (call_tests b call) ≡ none
unfolding call_checks
permitted b call p = none_found (call_tests b call) (retold_none refusal_paper (call_tests b call) p)

pub call_turned_away : CallTurnedAway
unfolding call_checks outcome_paper
call_turned_away b call one first =
    let found = first_found (call_checks b call) one first in
    let (why, is_first, on_paper) = retold_first refusal_paper (call_tests b call) one found in
    rw (refused_step_lem b call why is_first) (record { on_paper = on_paper; none_end = refl; same_bench = refl })

pub call_taken : CallTaken
unfolding taken
call_taken b (releases place demand) p = rw (taken_step_lem b (releases place demand) (permitted b _ p))
call_taken b ticks p = rw (taken_step_lem b ticks (permitted b ticks p))

pub refused_call_has_fault : RefusedCallHasFault
unfolding outcome_paper
refused_call_has_fault b call why e = go (first_failing (call_checks b call)) refl
  where
    go : (found : Option Paper) → first_failing (call_checks b call) ≡ found
        → FirstFailing (call_checks b call) (refusal_paper why)
    go none q =
        let taken = call_taken b call (none_fails (call_checks b call) q) in
        absurd (not_one (cc (sym taken ∙ e)))
    go (some one) q =
        let first = first_failing_lem (call_checks b call) one q in
        let is : refusal_paper why ≡ one = sym (ap outcome_paper e) ∙ (call_turned_away b call one first).on_paper in
        rw is first

pub refused_unchanged : RefusedUnchanged
refused_unchanged b call why e = rw (refused_same b call why e) (refl, refl)

-- Openings.
pub faulty_table_not_opened : FaultyTableNotOpened
unfolding opening_of opened opened_after bench_or checked_of checked_paper list_fault
faulty_table_not_opened cores table one first =
    let turned = turned_away (list_checks cores (rows_of table)) one first in
    let found : list_fault cores (rows_of table) ≡ some turned.fault = turned.is_fault_holds in
    record { on_paper = rw found turned.on_paper; stands_for_none = rw found; no_bench_holds = rw found }

pub sound_table_opened : SoundTableOpened
unfolding opening_of opened opened_after bench_or checked_of
sound_table_opened cores table sound =
    let found : list_fault cores (rows_of table) ≡ none = (sound_list_means cores (rows_of table)).1 sound in
    (rw found, rw found)

-- no history changes the board
board_after : (calls : List Call) (b : Bench)
    → ((after b calls).cores ≡ b.cores) × ((after b calls).table ≡ b.table)
unfolding after
board_after [] b = (refl, refl)
board_after (call ∷ calls) b =
    let (cores, table) = same_board b call in
    let later = board_after calls (do_call b call).bench in
    (later.0 ∙ cores, later.1 ∙ table)

pub opened_holds : OpenedHolds
unfolding empty_bench
opened_holds cores table b o =
    let (found, same) = opened_empty cores table b o in
    record {
      passed = (sound_list_means cores (rows_of table)).0 found;
      board = λ calls.
          let later = board_after calls b in
          (later.0 ∙ ap (λ (x : Bench). x.cores) same, later.1 ∙ ap (λ (x : Bench). x.table) same);
      starts = ap (λ (x : Bench). x.now.0) same;
      none_released = λ place. rw same (get_d_repeated row_capacity (place - 1) idle);
    }

-- Releases and ticks that are permitted.
pub releases_by_rule : ReleasesByRule
unfolding started call_tests
releases_by_rule b place demand long p =
    let e = permitted b (releases place demand) p in
    let may = may_release b place demand e in
    let k : Kept b = record { whole = whole_of b may.whole; long = long } in
    rw (taken_step_lem b (releases place demand) e)
    (record {
      outcome = refl;
      poll_starts = started_here b place demand k may;
      others = started_elsewhere b place demand k may;
      as_many = length-set b.states (place - 1) (fresh b.now.0 demand);
      clock = refl;
      board = (refl, refl);
      none_end = refl;
    })

pub ticks_by_rule : TicksByRule tick
unfolding call_tests
ticks_by_rule b long p =
    let e = permitted b ticks p in
    let k : Kept b = record { whole = whole_of b (may_tick b e).whole; long = long } in
    let few = sound_fits b.cores b.table k.whole.sound in
    rw (taken_step_lem b ticks e) (taken_rule b k (omega (arith, length_rows b.table, few, long)))

-- A row that is ready is released where the gap is kept.
ready_taken : (b : Bench) (place demand : ℕ) → Ready b place demand
    → too_soon b.now.0 (gap (row_at b place)) (state_at b place).last ≡ false
    → (release b place demand).outcome ≡ Ok tt
unfolding call_tests release_tests first_failing
ready_taken b place demand r kept =
    let no_zero = ne_eqb place 0 (λ e. omega (arith, r.first)) in
    let inside = le-ltb (length (rows b)) place r.last in
    let some_demand = ne_eqb demand 0 (λ e. omega (arith, r.some_demand)) in
    let fits = le-ltb (cost (row_at b place)) demand r.fits in
    let over = le-ltb 0 (work (state_at b place)) (omega (arith, r.over)) in
    ap (λ (s : Step). s.outcome)
    (taken_step_lem b (releases place demand) (rw (r.whole, no_zero, inside, some_demand, fits, kept, over)))

pub exact_gap_permitted : ExactGapPermitted
exact_gap_permitted b place demand at r last now =
    ready_taken b place demand r (rw last (gap_over b.now.0 (gap (row_at b place)) at (omega arith)))

pub first_release_permitted : FirstReleasePermitted
first_release_permitted b place demand r last =
    ready_taken b place demand r (rw last (first_never_soon b.now.0 (gap (row_at b place))))

-- Over whole histories, and at the clock's end.
pub books_balance : BooksBalance
books_balance = empty_balance

pub never_broken : NeverBroken
never_broken = opened_no_29

pub clock_ends : ClockEnds
unfolding call_tests outcome_paper refusal_paper
clock_ends b whole e =
    rw (refused_step_lem b ticks _ (tick_24 b whole e)) (record { on_paper = refl; none_end = refl; same_bench = refl })
