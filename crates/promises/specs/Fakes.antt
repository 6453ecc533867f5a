-- The fakes that have to be caught: those of document 01, and a tool that judges rows out of order.
use Rattle.std.specs.Prelude.{ℕ, ◌≤◌, ◌<◌, ◌≡◌, List, [], ◌∷◌, map, length, get_or, Ok, Err}
use Rattle.std.proofs.Math.Option.{some}
use Rattle.laws.specs.Each.{Each}
use Rattle.quantities.specs.declared.Row.{Row}
use Rattle.quantities.specs.declared.Table.{Table}
use Rattle.quantities.specs.Row.{row_of, no_row}
use Rattle.quantities.specs.Table.{rows_of}
use Rattle.windows.specs.declared.Answer.TheVariants.{Shown}
use Rattle.windows.specs.Answer.{judged, judged_into}
use Rattle.entries.specs.Entries.{entries_of, table_of}
use Rattle.sheet.specs.Reader.{read_of}
use Rattle.text.specs.Text.{judged_text}
use Rattle.sheetpages.specs.Sheets.{behind, blank_entry, WholeWith, RowRead}
use Rattle.bench.specs.declared.Bench.{Bench}
use Rattle.bench.specs.declared.Finish.{Finish}
use Rattle.bench.specs.Step.{Step, opened, release, later, tick}
use Rattle.bench.specs.History.{Call, releases, ticks}
use Rattle.bench.specs.Fakes.{once, inventing}
use Rattle.benchpages.specs.Calls.{state_on}
use Rattle.benchpages.specs.Polls.{bounds_for, bound_for}
use Rattle.benchpages.specs.LentPolls.{ReleasedWithin}
use Rattle.rowpages.specs.Lent.{Lending}
use Rattle.benchpages.specs.Moves.{TickServes}
use Rattle.promises.specs.Tool.{refused_text}
use Rattle.promises.specs.Promises.{Reader, Judge, Tool, Demand2For}

-- one that turns everything away: no list is ever answered with a bound for each row
abbrev pub TurnsEverythingAway : Judge → Type 0
TurnsEverythingAway judge = (cores : ℕ) (rows : List Row) → (judge cores rows).answer ≡ Shown → ⊥

-- or a reader that takes no sheet
abbrev pub TakesNoSheet : Reader → Type 0
TakesNoSheet read = (sheet : List ℕ) → (read sheet).verdict ≡ Ok tt → ⊥

-- one that answers C for each row
abbrev pub AnswersTheCost : Judge → Type 0
AnswersTheCost judge =
    (cores : ℕ) (rows : List Row) (k : ℕ) → k < length (judge cores rows).bounds
    → get_or (judge cores rows).bounds k 0 ≡ (get_or rows k no_row).c.0

-- one that writes no bounds: it answers rightly, and leaves the lent list as it was
abbrev pub writes_no_bounds : Lending
writes_no_bounds cores rows before after answer =
    (answer ≡ (judged_into cores (length before) rows).answer) × (after ≡ before)

-- or one that answers with no bounds
abbrev pub AnswersNoBounds : Judge → Type 0
AnswersNoBounds judge = (cores : ℕ) (rows : List Row) → (judge cores rows).bounds ≡ []

-- a reader that keeps sheet order: the row after n others on the sheet is entry n
abbrev pub KeepsSheetOrder : Reader → Type 0
KeepsSheetOrder read =
    (sheet : List ℕ) (n : ℕ) → WholeWith sheet n → (i : ℕ) → i < n
    → RowRead sheet (behind i) (get_or (entries_of (read sheet).sheet) i blank_entry)

-- a tool that reads rightly and judges rightly, but judges the rows in another order than it read and prints
-- them
abbrev pub judges_in_order : (List Row → List Row) → Tool
judges_in_order order sheet =
    let found = (read_of sheet).sheet in
    let rows = rows_of (table_of found) in
    elim (read_of sheet).verdict [
      | Err fault ↦ refused_text fault.number fault.place
      | Ok _ ↦ judged_text found rows (judged found.cores (order rows))
    ]

-- the order in which the records of document 01's sheet stand: the row of priority 10 before that of priority
-- 2
abbrev pub AsTheRecordsStand : (List Row → List Row) → Type 0
AsTheRecordsStand order =
    order (row_of 2 5 5 ∷ row_of 3 8 8 ∷ row_of 2 4 10 ∷ []) ≡ row_of 2 5 5 ∷ row_of 2 4 10 ∷ row_of 3 8 8 ∷ []

-- A bench that serves rightly in its first tick and idles later: the clock alone moves.
pub record ServesOnce (run : Bench → Step) : Type 0 where
  pub first_tick : (b : Bench) → b.now.0 ≡ 0 → run b ≡ tick b
  pub later_ticks : (b : Bench) → 1 ≤ b.now.0
      → run b ≡ record { outcome = Ok tt; finishes = []; bench = later b b.states }

-- One that invents response times: it ticks rightly, and each poll that it lists has the clock's reading for
-- its response.
pub record InventsResponses (run : Bench → Step) : Type 0 where
  pub outcome : (b : Bench) → (run b).outcome ≡ (tick b).outcome
  pub bench : (b : Bench) → (run b).bench ≡ (tick b).bench
  pub places : (b : Bench)
      → map (λ (poll : Finish). poll.place) (run b).finishes
      ≡ map (λ (poll : Finish). poll.place) (tick b).finishes
  pub responses : (b : Bench) → Each (λ (poll : Finish). poll.response.0 ≡ (tick b).bench.now.0) (run b).finishes

-- The calls on a board with another tick, and the bench after a history of them.
abbrev pub call_with : (Bench → Step) → Bench → Call → Step
call_with run b (releases place demand) = release b place demand
call_with run b ticks = run b

abbrev pub after_with : (Bench → Step) → Bench → List Call → Bench
after_with run b [] = b
after_with run b (call ∷ calls) = after_with run (call_with run b call).bench calls

-- A bound is kept for the row at a place, on a bench and in the next call on it: the row has work only less
-- than `bound` ticks after its release, and each poll of it that ends took at most `bound` ticks.
pub record BoundKept (b : Bench) (step : Step) (place bound : ℕ) : Type 0 where
  pub over_in_time : 0 < (state_on b place).left.0 → ReleasedWithin bound b place
  pub ends_in_time : Each (λ (poll : Finish). poll.place ≡ place → poll.response.0 ≤ bound) step.finishes

-- Demand 3 over a board with this tick: from an empty bench, over any sequence of calls.
abbrev pub BoundsKeptWith : (Bench → Step) → Type 0
BoundsKeptWith run =
    (cores : ℕ) (table : Table) (start : Bench) → opened cores table ≡ some start
    → (calls : List Call) (call : Call) (place : ℕ) → 1 ≤ place → place ≤ length (bounds_for cores table)
    → BoundKept (after_with run start calls) (call_with run (after_with run start calls) call) place
    (bound_for cores table place)

-- Neither fake passes: the tick rule of page Moves holds for neither, nor does demand 3 over it, which holds
-- for ours. (There are such benches.)
pub record FakeTicksCaught : Type 0 where
  pub serves_once : (run : Bench → Step) → ServesOnce run → (TickServes run → ⊥) × (BoundsKeptWith run → ⊥)
  pub invents : (run : Bench → Step) → InventsResponses run → (TickServes run → ⊥) × (BoundsKeptWith run → ⊥)
  pub one_serves_once : ServesOnce once
  pub one_invents : InventsResponses inventing
  pub ours_keeps : BoundsKeptWith tick

-- Demand 2 holds of none of the others, whatever the rest of the tool is.
module _ (read : Reader) (judge : Judge) (lend : Lending) (tool : Tool) where
  pub record FakesCaught : Type 0 where
    pub turns_away : Demand2For read judge lend tool → TurnsEverythingAway judge → ⊥
    pub takes_none : Demand2For read judge lend tool → TakesNoSheet read → ⊥
    pub answers_cost : Demand2For read judge lend tool → AnswersTheCost judge → ⊥
    pub writes_none : Demand2For read judge writes_no_bounds tool → ⊥
    pub answers_none : Demand2For read judge lend tool → AnswersNoBounds judge → ⊥
    pub keeps_order : Demand2For read judge lend tool → KeepsSheetOrder read → ⊥
    pub joins_wrongly : (order : List Row → List Row) → AsTheRecordsStand order
        → Demand2For read judge lend (judges_in_order order) → ⊥
