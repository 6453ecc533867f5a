-- What the bench promises, a type for each sentence of document 01. proofs/Rules.antt proves each.
use Rattle.std.specs.Prelude.{ℕ, ◌+◌, ◌≤◌, ◌<◌, ◌≡◌, false, ◌||◌, List, [], ◌∷◌, map, eqb, ltb, length, None, Some, Ok, Err}
use Rattle.std.proofs.Math.Option.{none, some}
use Rattle.quantities.specs.Limits.{row_capacity}
use Rattle.quantities.specs.Row.{cost, gap}
use Rattle.quantities.specs.Table.{rows_of}
use Rattle.laws.specs.Checks.{Check, retold, NoneFails, FirstFailing}
use Rattle.quantities.specs.Checks.{check, list_checks, SoundList}
use Rattle.quantities.specs.Paper.{Paper, paper, checked_paper}
use Rattle.quantities.specs.declared.Instant.{Instant}
use Rattle.quantities.specs.declared.Table.{Table}
use Rattle.bench.specs.declared.Bench.{Bench}
use Rattle.bench.specs.declared.Refusal.{Refusal}
use Rattle.bench.specs.declared.Refusal.TheVariants.{BrokenRecord}
use Rattle.bench.specs.State.{idle, rows, row_at, state_at, work, broken}
use Rattle.bench.specs.Refusal.{too_soon, refusal_paper, outcome_paper}
use Rattle.bench.specs.Step.{empty_bench, no_bench, opened, opening_of, Step, fresh, release, tick}
use Rattle.bench.specs.History.{Call, releases, ticks, call_tests, do_call, after, accepted, served_in}
use Rattle.bench.specs.TickRule.{TickRule}

-- The checks of a call, in their order: its tests, each with its number and place in document 01.
unfoldable pub call_checks : Bench → Call → List (Check Paper)
call_checks b call = map (retold refusal_paper) (call_tests b call)

-- a call is permitted where none of them fails
abbrev pub PermittedCall : Bench → Call → Type 0
PermittedCall b call = NoneFails (call_checks b call)

-- Order, release: 29, 20, 23, 22, 21.
abbrev pub ReleaseChecks : Type 0
ReleaseChecks =
    (b : Bench) (place demand : ℕ)
    → call_checks b (releases place demand)
    ≡ check 29 0 (broken b)
    ∷ check 20 place (eqb place 0 || ltb (length (rows b)) place)
    ∷ check 23 place (eqb demand 0 || ltb (cost (row_at b place)) demand)
    ∷ check 22 place (too_soon b.now.0 (gap (row_at b place)) (state_at b place).last)
    ∷ check 21 place (ltb 0 (work (state_at b place)))
    ∷ []

-- Order, tick: 29, 24.
abbrev pub TickChecks : Type 0
TickChecks =
    (b : Bench) → call_checks b ticks ≡ check 29 0 (broken b) ∷ check 24 0 (eqb b.now.0 1000000000) ∷ []

-- A call on a bench is turned away with a number and a place: no poll ends, and nothing changes on the bench.
pub record TurnedAway (b : Bench) (number place : ℕ) (step : Step) : Type 0 where
  pub on_paper : outcome_paper step.outcome ≡ paper number place
  pub none_end : step.finishes ≡ []
  pub same_bench : step.bench ≡ b

-- A call is turned away by the first of its checks that fails, and taken where none does.
abbrev pub CallTurnedAway : Type 0
CallTurnedAway =
    (b : Bench) (call : Call) (one : Paper)
    → FirstFailing (call_checks b call) one → TurnedAway b one.number one.place (do_call b call)

abbrev pub CallTaken : Type 0
CallTaken = (b : Bench) (call : Call) → PermittedCall b call → (do_call b call).outcome ≡ Ok tt

-- And a call that is refused fails the check that has its number and place, and none before it.
abbrev pub RefusedCallHasFault : Type 0
RefusedCallHasFault =
    (b : Bench) (call : Call) (why : Refusal)
    → (do_call b call).outcome ≡ Err why → FirstFailing (call_checks b call) (refusal_paper why)

-- A refused bench call changes nothing on the bench.
abbrev pub RefusedUnchanged : Type 0
RefusedUnchanged =
    (b : Bench) (call : Call) (why : Refusal)
    → (do_call b call).outcome ≡ Err why → ((do_call b call).finishes ≡ []) × ((do_call b call).bench ≡ b)

-- Opening a bench checks 1 to 6 in list order and gives no bench on refusal.
pub record NotOpened (cores : ℕ) (table : Table) (one : Paper) : Type 0 where
  pub on_paper : checked_paper (opening_of cores table).found ≡ paper one.number one.place
  pub stands_for_none : (opening_of cores table).bench ≡ no_bench
  pub no_bench_holds : opened cores table ≡ none

abbrev pub FaultyTableNotOpened : Type 0
FaultyTableNotOpened =
    (cores : ℕ) (table : Table) (one : Paper)
    → FirstFailing (list_checks cores (rows_of table)) one → NotOpened cores table one

abbrev pub SoundTableOpened : Type 0
SoundTableOpened =
    (cores : ℕ) (table : Table)
    → SoundList cores (rows_of table)
    → (opening_of cores table ≡ record { found = Ok tt; bench = empty_bench cores table })
    × (opened cores table ≡ some (empty_bench cores table))

-- The bench holds a table that passed checks 1 to 6, whatever the calls; an instant starting at 0; and for
-- each row its last release, its released demand and what remains of it, at the start none.
pub record BenchHolds (cores : ℕ) (table : Table) (b : Bench) : Type 0 where
  pub passed : SoundList cores (rows_of table)
  pub board : (calls : List Call) → ((after b calls).cores ≡ cores) × ((after b calls).table ≡ table)
  pub starts : b.now.0 ≡ 0
  pub none_released : (place : ℕ) → state_at b place ≡ idle

abbrev pub OpenedHolds : Type 0
OpenedHolds = (cores : ℕ) (table : Table) (b : Bench) → opened cores table ≡ some b → BenchHolds cores table b

-- Release: a poll starts at the present instant. Every other place, the clock and the board stay. A bench of
-- the code has a state for each of the rows that a table can hold.
pub record ReleaseRule (b : Bench) (place demand : ℕ) (step : Step) : Type 0 where
  pub outcome : step.outcome ≡ Ok tt
  pub poll_starts : state_at step.bench place ≡ fresh b.now.0 demand
  pub others : (other : ℕ) → 1 ≤ other → (other ≡ place → ⊥) → state_at step.bench other ≡ state_at b other
  pub as_many : length step.bench.states ≡ length b.states
  pub clock : step.bench.now ≡ b.now
  pub board : (step.bench.cores ≡ b.cores) × (step.bench.table ≡ b.table)
  pub none_end : step.finishes ≡ []

abbrev pub ReleasesByRule : Type 0
ReleasesByRule =
    (b : Bench) (place demand : ℕ)
    → length b.states ≡ row_capacity → PermittedCall b (releases place demand)
    → ReleaseRule b place demand (release b place demand)

-- Tick: the rule of specs/TickRule.antt, for each permitted tick of a function that ticks.
abbrev pub TicksByRule : (Bench → Step) → Type 0
TicksByRule run =
    (b : Bench) → length b.states ≡ row_capacity → PermittedCall b ticks → TickRule b (run b)

-- Each rule leaves one step: any two that meet it are equal (proofs/OneStep.antt).
abbrev pub OneRelease : Type 0
OneRelease =
    (b : Bench) (place demand : ℕ) (one other : Step)
    → ReleaseRule b place demand one → ReleaseRule b place demand other → one ≡ other

abbrev pub OneTick : Type 0
OneTick = (b : Bench) (one other : Step) → TickRule b one → TickRule b other → one ≡ other

-- The last poll of a row is over and the demand fits: the gap alone can stand against a release.
pub record Ready (b : Bench) (place demand : ℕ) : Type 0 where
  pub whole : broken b ≡ false
  pub first : 1 ≤ place
  pub last : place ≤ length (rows b)
  pub some_demand : 1 ≤ demand
  pub fits : demand ≤ cost (row_at b place)
  pub over : work (state_at b place) ≡ 0

-- A release exactly T ticks after the last one is permitted.
abbrev pub ExactGapPermitted : Type 0
ExactGapPermitted =
    (b : Bench) (place demand : ℕ) (at : Instant)
    → Ready b place demand → (state_at b place).last ≡ Some at → b.now.0 ≡ at.0 + gap (row_at b place)
    → (release b place demand).outcome ≡ Ok tt

-- A row's first release is permitted at each instant.
abbrev pub FirstReleasePermitted : Type 0
FirstReleasePermitted =
    (b : Bench) (place demand : ℕ)
    → Ready b place demand → (state_at b place).last ≡ None → (release b place demand).outcome ≡ Ok tt

-- From an empty bench, for each row, demand accepted in the history equals units served in the history's
-- ticks plus what remains.
abbrev pub BooksBalance : Type 0
BooksBalance =
    (cores : ℕ) (table : Table) (b : Bench) → opened cores table ≡ some b
    → (calls : List Call) (place : ℕ) → 0 < place → place ≤ length (rows b)
    → accepted place b calls ≡ served_in place b calls + work (state_at (after b calls) place)

-- From an empty bench no call gives 29.
abbrev pub NeverBroken : Type 0
NeverBroken =
    (cores : ℕ) (table : Table) (b : Bench) → opened cores table ≡ some b
    → (calls : List Call) (call : Call) → (do_call (after b calls) call).outcome ≡ Err BrokenRecord → ⊥

-- A tick at instant 1,000,000,000 gives 24 at place 0, and nothing moves.
abbrev pub ClockEnds : Type 0
ClockEnds = (b : Bench) → broken b ≡ false → b.now.0 ≡ 1000000000 → TurnedAway b 24 0 (tick b)
