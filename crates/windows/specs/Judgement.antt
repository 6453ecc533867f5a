-- What the answer to a sound list says, literally: least windows down to the first row that has none.
use Rattle.std.specs.Prelude.{ℕ, zero, suc, ◌≤◌, ◌<◌, ◌≡◌, ◌⊎◌, ◌↔◌, List, [], ◌∷◌, length, get_or, take}
use Rattle.quantities.specs.Row.{no_row}
use Rattle.quantities.specs.Paper.{paper}
use Rattle.quantities.specs.declared.Row.{Row}
use Rattle.windows.specs.declared.Answer.TheVariants.{Shown, NotShown}
use Rattle.windows.specs.Choice.{Bounded, bounded}
use Rattle.windows.specs.Bound.{IsBound, NoBound}
use Rattle.windows.specs.Answer.{Judged, late_number, answer_paper}

-- the row with index k, counted from 0: it stands at place k + 1
abbrev pub row_of_index : List Row → ℕ → Row
row_of_index rows k = get_or rows k no_row

-- the rows above index k with their bounds, the nearest first
abbrev pub above_index : List Row → List ℕ → ℕ → List Bounded
above_index rows bounds zero = []
above_index rows bounds (suc k) = bounded (row_of_index rows k) (get_or bounds k 0) ∷ above_index rows bounds k

-- Every row has its bound.
pub record AllShown (rows : List Row) (j : Judged) : Type 0 where
  pub says : j.answer ≡ Shown
  pub each : length j.bounds ≡ length rows

-- The row below those with bounds is named by its number and place, and no window passes for it.
pub record FirstNotShown (M : ℕ) (rows : List Row) (j : Judged) : Type 0 where
  pub says : j.answer ≡ NotShown late_number (suc (length j.bounds))
  pub on_paper : answer_paper j.answer ≡ paper late_number (suc (length j.bounds))
  pub stands : length j.bounds < length rows
  pub none : NoBound M (above_index rows j.bounds (length j.bounds))
      (row_of_index rows (length j.bounds))

-- The answer to rows that pass the checks: each bound is the least window from C to D that passes, and either every
-- row has one, or the first row without is named, and it and the rows below it have none.
pub record Judgement (M : ℕ) (rows : List Row) (j : Judged) : Type 0 where
  pub least : (k : ℕ) → k < length j.bounds
      → IsBound M (above_index rows j.bounds k) (row_of_index rows k) (get_or j.bounds k 0)
  pub ends : AllShown rows j ⊎ FirstNotShown M rows j

-- Two answers are the same for places 1 to k: the same bounds, and the same row named by the same
-- number, if one of these is.
pub record SameDownTo (k : ℕ) (a b : Judged) : Type 0 where
  pub bounds : take k a.bounds ≡ take k b.bounds
  pub named : (number place : ℕ) → place ≤ k
      → (a.answer ≡ NotShown number place) ↔ (b.answer ≡ NotShown number place)
