-- What the engine's inner functions ask for and leave. No promise is made in these words.
use Rattle.std.specs.Prelude.{ℕ, zero, suc, ◌+◌, ◌-◌, ◌*◌, ◌≤◌, ◌<◌, min, max, ◌≡◌, List, [], ◌∷◌, length, get_or, Option, None, Some}
use Rattle.std.specs.Coded.{×_prop, Unit-prop, le_prop}
use Rattle.std.proofs.Math.Option.{Option as Maybe, none, some}
use Rattle.laws.specs.Each.{Each}
use Rattle.quantities.specs.Limits.{row_capacity, core_limit, largest_gap}
use Rattle.quantities.specs.Row.{cost, deadline, gap}
use Rattle.quantities.specs.Table.{rows_of}
use Rattle.quantities.specs.Lengths.{numbers, ticks}
use Rattle.quantities.specs.declared.Table.{Table}
use Rattle.quantities.specs.declared.Ticks.{Ticks}
use Rattle.windows.specs.Choice.{Bounded, InRange, load, loads, most}
use Rattle.windows.specs.Jump.{room, rooms, stride}
use Rattle.windows.specs.Judgement.{row_of_index, above_index}

-- the longest window that the engine tries, in ticks: 64 times the largest gap
abbrev pub largest_window : ℕ
largest_window = 64 * largest_gap

-- the rows of a table above index k, with the bounds found so far, the nearest first
abbrev pub above : Table → List Ticks → ℕ → List Bounded
above table bounds k = above_index (rows_of table) (numbers bounds) k

-- The gap of a row above is no longer than the largest.
abbrev pub ShortGap : Bounded → Type 0
ShortGap b = gap b.row ≤ largest_gap

-- The cores and the count pass the checks, and the rows above index k have short gaps and bounds in range. Of the row
-- with index k and of those below it nothing is asked.
pub record Ready (cores : ℕ) (table : Table) (bounds : List Ticks) (k : ℕ) : Type 0 where
  pub some_cores : 0 < cores
  pub few_cores : cores ≤ core_limit
  pub few_rows : table.count ≤ row_capacity
  pub within : k ≤ table.count
  pub short : Each ShortGap (above table bounds k)
  pub range : Each InRange (above table bounds k)

-- There is one proof of it at most.
each_prop : (P : Bounded → Type 0) → ((b : Bounded) → IsProp (P b)) → (bs : List Bounded) → IsProp (Each P bs)
each_prop P one [] = Unit-prop
each_prop P one (b ∷ bs) = ×_prop (one b) (each_prop P one bs)

in_range_prop : (b : Bounded) → IsProp (InRange b)
in_range_prop b = λ p q i. record { works = le_prop p.works q.works i; low = le_prop p.low q.low i; high = le_prop p.high q.high i }

pub Ready-prop : (cores : ℕ) (table : Table) (bounds : List Ticks) (k : ℕ) → IsProp (Ready cores table bounds k)
Ready-prop cores table bounds k = λ p q i.
    record {
      some_cores = le_prop p.some_cores q.some_cores i;
      few_cores = le_prop p.few_cores q.few_cores i;
      few_rows = le_prop p.few_rows q.few_rows i;
      within = le_prop p.within q.within i;
      short = each_prop ShortGap (λ b. le_prop) (above table bounds k) p.short q.short i;
      range = each_prop InRange in_range_prop (above table bounds k) p.range q.range i;
    }

-- The row with index k stands in the table; what it costs can be asked, and its D is no longer than the longest window.
pub record CanSearch (table : Table) (k : ℕ) : Type 0 where
  pub stands : k < table.count
  pub short_cost : cost (row_of_index (rows_of table) k) ≤ largest_gap
  pub short_deadline : deadline (row_of_index (rows_of table) k) ≤ largest_window

-- The most that the rows take with m carriers, when one row more comes with this load; `mosts` has it for the rows so
-- far.
unfoldable pub raised_at : List ℕ → (without carrying : ℕ) → ℕ → ℕ
raised_at mosts without carrying zero = without + get_or mosts 0 0
raised_at mosts without carrying (suc m) = max (without + get_or mosts (suc m) 0) (carrying + get_or mosts m 0)

-- What is raised stays far below what a number holds.
pub record CanRaise (mosts : List ℕ) (carriers without carrying : ℕ) : Type 0 where
  pub long : length mosts ≡ core_limit
  pub few : carriers < core_limit
  pub small_without : without ≤ suc largest_window
  pub small_carrying : carrying ≤ suc largest_window
  pub small : (m : ℕ) → m ≤ carriers → get_or mosts m 0 ≤ row_capacity * suc largest_window

-- The mosts up to `carriers` are the raised ones of the old.
pub record Raised (old mosts : List ℕ) (carriers without carrying : ℕ) : Type 0 where
  pub long : length mosts ≡ core_limit
  pub each : (m : ℕ) → m ≤ carriers → get_or mosts m 0 ≡ raised_at old without carrying m

-- How many rows have room, and the least room of these, when one row more comes with this room.
unfoldable pub count_with : (room count : ℕ) → ℕ
count_with zero count = count
count_with (suc room) count = suc count

unfoldable pub least_with : (room least : ℕ) → ℕ
least_with zero least = least
least_with (suc room) least = min (suc room) least

-- A row above with its bound, and a window, whose load can be taken with no sum too large.
pub record CanLoad (b : Bounded) (x : ℕ) : Type 0 where
  pub range : InRange b
  pub short_gap : ShortGap b
  pub short_window : x ≤ largest_window

-- What is said of a load that the code takes.
pub record LoadIs (own x : ℕ) (b : Bounded) (w c r : ℕ) : Type 0 where
  pub without : w ≡ (load own x b).without
  pub carrying : c ≡ (load own x b).carrying
  pub roominess : r ≡ room own x b

-- What is said of what the rows above take.
pub record TakenIs (cores own x : ℕ) (rows : List Bounded) (m s : ℕ) : Type 0 where
  pub mostly : m ≡ most (loads own x rows) (cores - 1)
  pub striding : s ≡ stride cores largest_window (rooms own x rows)

-- a window, or none, as the code answers it
unfoldable pub found_of : Maybe ℕ → Option Ticks
found_of none = None
found_of (some x) = Some (ticks x)
