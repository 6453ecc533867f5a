-- The parts that demand 3 rests on, left open: the promise as a statement about any choice of them.
use Rattle.std.specs.Prelude.{ℕ, ◌+◌, ◌-◌, ◌*◌, ◌/◌, ◌%◌, ◌≤◌, min, ◌≡◌, Bool, true, false, List, [], ◌∷◌, ltb, length, take, Ok}
use Rattle.std.proofs.Math.Option.{none, some}
use Rattle.laws.specs.Checks.{first_failing}
use Rattle.laws.specs.Each.{Each}
use Rattle.quantities.specs.declared.Row.{Row}
use Rattle.quantities.specs.declared.Table.{Table}
use Rattle.quantities.specs.Row.{cost, deadline, gap}
use Rattle.quantities.specs.Table.{rows_of}
use Rattle.windows.specs.Window.{plain, limit}
use Rattle.windows.specs.Choice.{Bounded, bounded, Load, most}
use Rattle.windows.specs.Least.{least}
use Rattle.windows.specs.Bound.{bounds_below}
use Rattle.bench.specs.declared.Bench.{Bench}
use Rattle.bench.specs.State.{rows}
use Rattle.bench.specs.Refusal.{release_tests}
use Rattle.bench.specs.Serving.{workers}
use Rattle.bench.specs.Fakes.{idled, once, inventing}
use Rattle.bench.specs.Step.{Step, opened, unless_refused, started, release, tick}
use Rattle.bench.specs.History.{Call, releases, ticks, do_call, after}
use Rattle.running.specs.Running.{bound_at, OverInTime, EndsInTime, NotUnfinished}

-- What the promise rests on: the ticks of a window x in which one row above can hold up a row with this own cost, how
-- many rows carry in on M cores, where the carry-in of a row with cost c is cut, what is promised of a bound, and the
-- board.
pub record Parts : Type 0 where
  pub held_up : (own x : ℕ) → ℕ
  pub carry_in : (M : ℕ) → ℕ
  pub carried : (c : ℕ) → ℕ
  pub promised : (bound : ℕ) → ℕ
  pub board : Bench → Call → Step

abbrev pub parts : (ℕ → ℕ → ℕ) → (ℕ → ℕ) → (ℕ → ℕ) → (ℕ → ℕ) → (Bench → Call → Step) → Parts
parts held_up carry_in carried promised board =
    record { held_up = held_up; carry_in = carry_in; carried = carried; promised = promised; board = board }

-- carry-in, loads, the test of a window and the bounds of rows, as in crates/windows but for the parts
unfoldable pub carry_by : Parts → (c t r x : ℕ) → ℕ
carry_by p c t r x =
    let y = x - c in
    y / t * c + c + min (y % t - (t - r)) (p.carried c)

abbrev pub load_by : Parts → (own x : ℕ) → Bounded → Load
load_by p own x b =
    record {
      without = min (plain (cost b.row) (gap b.row) x) (p.held_up own x);
      carrying = min (carry_by p (cost b.row) (gap b.row) b.bound x) (p.held_up own x);
    }

abbrev pub loads_by : Parts → (own x : ℕ) → List Bounded → List Load
loads_by p own x [] = []
loads_by p own x (b ∷ above) = load_by p own x b ∷ loads_by p own x above

unfoldable pub passes_by : Parts → (M own : ℕ) → List Bounded → ℕ → Bool
passes_by p M own above x = ltb (most (loads_by p own x above) (p.carry_in M)) (M * limit own x)

unfoldable pub bounds_by : Parts → (M : ℕ) → List Bounded → List Row → List ℕ
bounds_by p M above [] = []
bounds_by p M above (row ∷ rest) =
    elim (least (passes_by p M (cost row) above) (cost row) (deadline row)) [
      | none ↦ []
      | some b ↦ b ∷ bounds_by p M (bounded row b ∷ above) rest
    ]

-- the bench after a history on the board of the parts
unfoldable pub after_by : Parts → Bench → List Call → Bench
after_by p b [] = b
after_by p b (call ∷ calls) = after_by p (p.board b call).bench calls

-- A bound is kept on a bench and in the next call on it, as `Holds` says it of a whole history.
pub record Keeps (b : Bench) (step : Step) (place bound : ℕ) : Type 0 where
  pub over_in_time : OverInTime place bound b
  pub ends_in_time : EndsInTime place bound step
  pub not_unfinished : NotUnfinished place step

-- Demand 3 for these parts: whatever calls are made on a bench that was opened, what is promised of the bound of a
-- row that has one is kept there and in the next call.
abbrev pub InTime : Parts → Type 0
InTime p =
    (cores : ℕ) (table : Table) (start : Bench) → opened cores table ≡ some start → (calls : List Call) (call : Call)
    (place : ℕ) → 1 ≤ place → place ≤ length (bounds_by p cores [] (rows_of table))
    → Keeps (after_by p start calls) (p.board (after_by p start calls) call) place
    (p.promised (bound_at (bounds_by p cores [] (rows_of table)) place))

-- the bench one instant later, and nothing else changed
abbrev later : Bench → Bench
later b = (idled b).bench

-- a board with another tick
abbrev pub with_tick : (Bench → Step) → Bench → Call → Step
with_tick run b (releases place demand) = release b place demand
with_tick run b ticks = run b

-- a tick that idles when fewer rows have work than the board has cores
unfoldable pub idling : Bench → Step
idling b =
    elim (ltb (workers (take (length (rows b)) b.states)) b.cores) [
      | true ↦ idled b
      | false ↦ tick b
    ]

-- a board that counts each gap one tick short: its tests stand at the next instant
unfoldable pub early : Bench → Call → Step
early b (releases place demand) =
    unless_refused (first_failing (release_tests (later b) place demand))
    (record { outcome = Ok tt; finishes = []; bench = started b place demand })
    b
early b ticks = tick b

-- The parts of documents 000 and 01: interference is limited by x − C + 1, at most M − 1 rows carry in, carry-in is
-- cut at C − 1, the bound itself is promised, and the board is the bench.
abbrev pub ours : Parts
ours = parts (λ own x. x - own + 1) (λ M. M - 1) (λ c. c - 1) (λ bound. bound) do_call

-- The promise holds for our parts, with the bounds of crates/windows and the histories of crates/bench: nothing is
-- said of a copy.
pub record HoldsForOurs : Type 0 where
  pub bounds : (M : ℕ) (rows : List Row) → bounds_by ours M [] rows ≡ bounds_below M [] rows
  pub histories : (b : Bench) (calls : List Call) → after_by ours b calls ≡ after b calls
  pub in_time : InTime ours

-- The same with one part changed: the bound lowered by one; interference limited by x − C; one carry-in row too few;
-- carry-in cut at C − 2; a tick that idles when fewer than M rows have work; a gap counted one short; and the two fake
-- benches of document 01, one that serves rightly in its first tick and idles later, and one that invents response
-- times.
abbrev pub changed : List Parts
changed =
    parts (λ own x. x - own + 1) (λ M. M - 1) (λ c. c - 1) (λ bound. bound - 1) do_call
    ∷ parts (λ own x. x - own) (λ M. M - 1) (λ c. c - 1) (λ bound. bound) do_call
    ∷ parts (λ own x. x - own + 1) (λ M. M - 2) (λ c. c - 1) (λ bound. bound) do_call
    ∷ parts (λ own x. x - own + 1) (λ M. M - 1) (λ c. c - 2) (λ bound. bound) do_call
    ∷ parts (λ own x. x - own + 1) (λ M. M - 1) (λ c. c - 1) (λ bound. bound) (with_tick idling)
    ∷ parts (λ own x. x - own + 1) (λ M. M - 1) (λ c. c - 1) (λ bound. bound) early
    ∷ parts (λ own x. x - own + 1) (λ M. M - 1) (λ c. c - 1) (λ bound. bound) (with_tick once)
    ∷ parts (λ own x. x - own + 1) (λ M. M - 1) (λ c. c - 1) (λ bound. bound) (with_tick inventing)
    ∷ []

-- It does not hold by accident: each part is needed.
abbrev pub EachPartNeeded : Type 0
EachPartNeeded = Each (λ p. InTime p → ⊥) changed
