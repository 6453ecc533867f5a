-- The bench calls: which openings, releases and ticks are taken, and what turns each other one away.
use Rattle.std.specs.Prelude.{ℕ, ◌+◌, ◌-◌, ◌≤◌, ◌<◌, ◌≡◌, ◌↔◌, Bool, true, false, ◌||◌, List, [], ◌∷◌, eqb, ltb, length, get_or, take, drop, replicate, Option, None, Some, Ok, Err}
use Rattle.std.proofs.Math.Option.{none, some}
use Rattle.laws.specs.Each.{Each}
use Rattle.quantities.specs.declared.Row.{Row}
use Rattle.quantities.specs.declared.Table.{Table}
use Rattle.quantities.specs.declared.Instant.{Instant}
use Rattle.quantities.specs.Row.{row_of}
use Rattle.quantities.specs.Table.{rows_of}
use Rattle.quantities.specs.Paper.{Paper, paper, checked_paper}
use Rattle.laws.specs.Checks.{Check, FirstFailing, first_failing}
use Rattle.quantities.specs.Checks.{check}
use Rattle.bench.specs.declared.RowState.{RowState}
use Rattle.bench.specs.declared.Bench.{Bench}
use Rattle.bench.specs.declared.Refusal.{Refusal}
use Rattle.bench.specs.declared.Refusal.TheVariants.{NoPlace, Unfinished, TooSoon, WrongDemand}
use Rattle.bench.specs.declared.Refusal.TheVariants.{ClockEnd, BrokenRecord}
use Rattle.bench.specs.declared.Finish.{Finish}
use Rattle.bench.specs.declared.Finishes.{Finishes}
use Rattle.bench.specs.State.{last_instant, broken}
use Rattle.bench.specs.Refusal.{refusal_paper, outcome_paper, release_tests, tick_tests, outcome_of}
use Rattle.bench.specs.Ended.{finishes_of}
use Rattle.bench.specs.Step.{Step, opened, opening_of, release, tick, released_of, ticked_of}
use Rattle.bench.specs.History.{Call, releases, ticks, do_call, after}
use Rattle.rowpages.specs.Lists.{list_order, fault_at, ListInRange}

-- A row's state before its first release: never released, no demand, nothing that remains.
abbrev pub never_released : RowState
never_released = record { last = None; demand = record { 0 = 0 }; left = record { 0 = 0 } }

-- The rows of the bench's table, and the row and its state at a place: places count from 1.
abbrev pub rows_on : Bench → List Row
rows_on b = rows_of b.table

abbrev pub row_on : Bench → (place : ℕ) → Row
row_on b place = get_or (rows_on b) (place - 1) (row_of 0 0 0)

abbrev pub state_on : Bench → (place : ℕ) → RowState
state_on b place = get_or b.states (place - 1) never_released

-- A place of the bench: 1 to the number of its rows.
pub record OnBoard (b : Bench) (place : ℕ) : Type 0 where
  pub first : 1 ≤ place
  pub last : place ≤ length (rows_on b)

-- The numbers of a refusal: 20 to 23 at the place given, 24 and 29 at place 0.
pub record RefusalNumbers : Type 0 where
  pub no_such_place : (place : ℕ) → refusal_paper (NoPlace place) ≡ paper 20 place
  pub last_poll_unfinished : (place : ℕ) → refusal_paper (Unfinished place) ≡ paper 21 place
  pub fewer_than_the_gap : (place : ℕ) → refusal_paper (TooSoon place) ≡ paper 22 place
  pub demand_zero_or_above : (place : ℕ) → refusal_paper (WrongDemand place) ≡ paper 23 place
  pub clock_ended : refusal_paper ClockEnd ≡ paper 24 0
  pub record_broken : refusal_paper BrokenRecord ≡ paper 29 0
  pub of_a_refused_call : (why : Refusal) → outcome_paper (Err why) ≡ refusal_paper why
  pub none_of_a_taken_call : outcome_paper (Ok tt) ≡ paper 0 0

-- 29: a record with a table failing 1 to 6, an instant above 1,000,000,000, a last release after it, a
-- released demand above C, a remainder above that demand, or work on a row never released.
pub data RecordBroken (b : Bench) : Type 0 where
  faulty_table : (one : Paper) → FirstFailing (list_order b.cores (rows_on b)) one → RecordBroken b
  late_instant : 1000000000 < b.now.0 → RecordBroken b
  released_later :
      (place : ℕ) (at : Instant) → OnBoard b place → (state_on b place).last ≡ Some at → b.now.0 < at.0
      → RecordBroken b
  demand_above_cost :
      (place : ℕ) → OnBoard b place → (row_on b place).c.0 < (state_on b place).demand.0 → RecordBroken b
  more_left_than_demand :
      (place : ℕ) → OnBoard b place → (state_on b place).demand.0 < (state_on b place).left.0 → RecordBroken b
  work_never_released :
      (place : ℕ) → OnBoard b place → (state_on b place).last ≡ None → 0 < (state_on b place).left.0
      → RecordBroken b

-- The test of 29 that stands first in the order of a call fails exactly for such a record,
abbrev pub BrokenExactly : Type 0
BrokenExactly = (b : Bench) → (broken b ≡ true) ↔ RecordBroken b

-- and exactly there a call gives 29 at place 0.
abbrev pub Gives29 : Type 0
Gives29 = (b : Bench) (call : Call) → (outcome_paper (do_call b call).outcome ≡ paper 29 0) ↔ RecordBroken b

-- 22: fewer than T ticks since the last release. A row's first release is permitted at each instant.
abbrev pub too_early : (now gap : ℕ) → Option Instant → Bool
too_early now gap None = false
too_early now gap (Some at) = ltb now (at.0 + gap)

-- Order, release: 29, 20, 23, 22, 21;
abbrev pub release_order : Bench → (place demand : ℕ) → List (Check Paper)
release_order b place demand =
    check 29 0 (broken b)
    ∷ check 20 place (eqb place 0 || ltb (length (rows_on b)) place)
    ∷ check 23 place (eqb demand 0 || ltb (row_on b place).c.0 demand)
    ∷ check 22 place (too_early b.now.0 (row_on b place).t.0 (state_on b place).last)
    ∷ check 21 place (ltb 0 (state_on b place).left.0)
    ∷ []

-- tick: 29, 24.
abbrev pub tick_order : Bench → List (Check Paper)
tick_order b = check 29 0 (broken b) ∷ check 24 0 (eqb b.now.0 1000000000) ∷ []

abbrev pub call_order : Bench → Call → List (Check Paper)
call_order b (releases place demand) = release_order b place demand
call_order b ticks = tick_order b

-- A call is turned away with a number and a place: no poll ends, and nothing changes on the bench.
pub record Refuses (b : Bench) (number place : ℕ) (step : Step) : Type 0 where
  pub on_paper : outcome_paper step.outcome ≡ paper number place
  pub none_end : step.finishes ≡ []
  pub same_bench : step.bench ≡ b

-- A refused bench call changes nothing on the bench.
abbrev pub RefusedChangesNothing : Type 0
RefusedChangesNothing =
    (b : Bench) (call : Call) (why : Refusal) → (do_call b call).outcome ≡ Err why
    → ((do_call b call).finishes ≡ []) × ((do_call b call).bench ≡ b)

-- A call is turned away by the first check that fails, with its number and place, and nothing changes;
abbrev pub CallTurnedAway : Type 0
CallTurnedAway =
    (b : Bench) (call : Call) (one : Paper) → FirstFailing (call_order b call) one
    → Refuses b one.number one.place (do_call b call)

-- it is taken where none fails;
abbrev pub CallTaken : Type 0
CallTaken =
    (b : Bench) (call : Call) → Each (λ one. one.fails ≡ false) (call_order b call)
    → (do_call b call).outcome ≡ Ok tt

-- and a call that is refused fails the check that has its number and place, and none before it.
abbrev pub RefusedCallHasFault : Type 0
RefusedCallHasFault =
    (b : Bench) (call : Call) (why : Refusal) → (do_call b call).outcome ≡ Err why
    → FirstFailing (call_order b call) (refusal_paper why)

-- Nothing but the gap can stand against a release: a record without 29, a place of the board, a demand of
-- 1 to C, and a last poll that is over.
pub record Ready (b : Bench) (place demand : ℕ) : Type 0 where
  pub whole : RecordBroken b → ⊥
  pub on_board : OnBoard b place
  pub some_demand : 1 ≤ demand
  pub fits : demand ≤ (row_on b place).c.0
  pub over : (state_on b place).left.0 ≡ 0

-- Then a release exactly T ticks after the last one is permitted, and each later one; an earlier gives 22.
abbrev pub GapPermitted : Type 0
GapPermitted =
    (b : Bench) (place demand : ℕ) (at : Instant) → Ready b place demand → (state_on b place).last ≡ Some at
    → (((release b place demand).outcome ≡ Ok tt) ↔ (at.0 + (row_on b place).t.0 ≤ b.now.0))
    × (b.now.0 < at.0 + (row_on b place).t.0 → Refuses b 22 place (release b place demand))

-- A row's first release is permitted at each instant.
abbrev pub FirstReleasePermitted : Type 0
FirstReleasePermitted =
    (b : Bench) (place demand : ℕ) → Ready b place demand → (state_on b place).last ≡ None
    → (release b place demand).outcome ≡ Ok tt

-- The bench that is opened: the cores and the table given, instant 0, a state for each of 32 rows, and no
-- row released.
abbrev pub new_bench : (cores : ℕ) → Table → Bench
new_bench cores table =
    record { cores = cores; table = table; now = record { 0 = 0 }; states = replicate 32 never_released }

-- What stands where no bench is given: no cores, a table of no row, instant 0.
abbrev pub blank_bench : Bench
blank_bench = new_bench 0 (record { count = 0; rows = replicate 32 (row_of 0 0 0) })

-- Opening a bench checks 1 to 6 in list order and gives no bench on refusal: each call on what stands there
-- gives 29.
pub record NotOpened (cores : ℕ) (table : Table) (one : Paper) : Type 0 where
  pub found : (opening_of cores table).found ≡ Err (fault_at one.number one.place)
  pub on_paper : checked_paper (opening_of cores table).found ≡ paper one.number one.place
  pub stands_for_none : (opening_of cores table).bench ≡ blank_bench
  pub no_bench_holds : opened cores table ≡ none
  pub no_call : (call : Call) → Refuses blank_bench 29 0 (do_call blank_bench call)

abbrev pub OpeningRefused : Type 0
OpeningRefused =
    (cores : ℕ) (table : Table) (one : Paper) → FirstFailing (list_order cores (rows_of table)) one
    → NotOpened cores table one

-- A table that passes 1 to 6 is opened.
abbrev pub OpeningTaken : Type 0
OpeningTaken =
    (cores : ℕ) (table : Table) → ListInRange cores (rows_of table)
    → (opening_of cores table ≡ record { found = Ok tt; bench = new_bench cores table })
    × (opened cores table ≡ some (new_bench cores table))

-- Only such a table is opened, and no call changes the board.
pub record Opened (cores : ℕ) (table : Table) (b : Bench) : Type 0 where
  pub in_range : ListInRange cores (rows_of table)
  pub is_new : b ≡ new_bench cores table
  pub same_board : (calls : List Call) → ((after b calls).cores ≡ cores) × ((after b calls).table ≡ table)

abbrev pub OpenedHolds : Type 0
OpenedHolds = (cores : ℕ) (table : Table) (b : Bench) → opened cores table ≡ some b → Opened cores table b

-- 24: from its opening on, over any calls, a board ticks at each instant before 1,000,000,000, not at it.
abbrev pub ClockTo1000000000 : Type 0
ClockTo1000000000 =
    (cores : ℕ) (table : Table) (start : Bench) → opened cores table ≡ some start → (calls : List Call)
    → ((after start calls).now.0 < 1000000000 → (tick (after start calls)).outcome ≡ Ok tt)
    × ((after start calls).now.0 ≡ 1000000000
    → Refuses (after start calls) 24 0 (tick (after start calls)))

-- The answer lists the rows that finished: 32 entries, the first of them these polls, every later one blank.
pub record ListsPolls (polls : List Finish) (answer : Finishes) : Type 0 where
  pub how_many : answer.count ≡ length polls
  pub first : take (length polls) answer.list ≡ polls
  pub blank :
      drop (length polls) answer.list
      ≡ replicate (32 - length polls) (record { place = 0; response = record { 0 = 0 } })
  pub room : length answer.list ≡ 32

abbrev pub EndedListed : Type 0
EndedListed =
    ((polls : List Finish) → length polls ≤ 32 → ListsPolls polls (finishes_of polls))
    × ((b : Bench) → ListsPolls (tick b).finishes (ticked_of (tick b)).finishes)

-- What the functions answer by value: `release` and `tick` the step's outcome, its list of polls and its
-- bench; `judge_release` and `judge_tick` the outcome alone.
pub record CallsAnswered : Type 0 where
  pub last_instant_holds : last_instant ≡ 1000000000
  pub judge_release : (b : Bench) (place demand : ℕ)
      → outcome_of (first_failing (release_tests b place demand)) ≡ (release b place demand).outcome
  pub judge_tick : (b : Bench) → outcome_of (first_failing (tick_tests b)) ≡ (tick b).outcome
  pub to_release : (step : Step) → released_of step ≡ record { outcome = step.outcome; bench = step.bench }
  pub to_tick : (step : Step)
      → ticked_of step
      ≡ record { outcome = step.outcome; finishes = finishes_of step.finishes; bench = step.bench }
