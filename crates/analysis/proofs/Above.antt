-- The rows above an index as the engine meets them: each entry of the table with its entry of the bounds.
use Prim.Native.Nat.{ℕ, zero, suc, ◌≤◌, ◌<◌}
use native.Mathlib.Omega.{arith}
use native.Mathlib.Decide.{ℕ_discrete}
use mathlib.Core.Path.{◌≡◌, refl, subst⁻¹}
use mathlib.Core.List.{List}
use lib.ListN.{get_or, get_or-map}
use Rattle.laws.specs.Each.{Each}
use Rattle.quantities.specs.Row.{no_row}
use Rattle.quantities.specs.Table.{rows_of}
use Rattle.quantities.specs.Lengths.{ticks, numbers}
use Rattle.quantities.specs.declared.Row.{Row}
use Rattle.quantities.specs.declared.Table.{Table}
use Rattle.quantities.specs.declared.Ticks.{Ticks}
use Rattle.quantities.proofs.Rows.{row_at_lem}
use Rattle.windows.specs.Choice.{Bounded, bounded}
use Rattle.windows.specs.Judgement.{above_index, row_of_index}
use Rattle.analysis.specs.Engine.{above}

-- what holds of each row above an index holds of one of them
pub each_above : (P : Bounded → Type 0) (rows : List Row) (bounds : List ℕ) (k i : ℕ) → i < k
    → Each P (above_index rows bounds k) → P (bounded (row_of_index rows i) (get_or bounds i 0))
each_above P rows bounds zero i h each = absurd (omega arith)
each_above P rows bounds (suc k) i h each =
    elim (ℕ_discrete i k) [
      | yes same ↦ rw same each.0
      | no other ↦ each_above P rows bounds k i (omega arith) each.1
    ]

-- and of the first of them
pub fewer_above : (P : Bounded → Type 0) (rows : List Row) (bounds : List ℕ) (k i : ℕ) → i ≤ k
    → Each P (above_index rows bounds k) → Each P (above_index rows bounds i)
fewer_above P rows bounds zero i h each = let none : i ≡ 0 = omega arith in rw none tt
fewer_above P rows bounds (suc k) i h each =
    elim (ℕ_discrete i (suc k)) [
      | yes same ↦ rw same each
      | no other ↦ fewer_above P rows bounds k i (omega arith) each.1
    ]

-- the row with index i and its bound, as the engine reads them
abbrev pub entry : Table → List Ticks → ℕ → Bounded
entry table bounds i = bounded (get_or table.rows i no_row) (get_or bounds i (ticks 0)).0

-- the row that the engine reads with its bound is the next of those above
pub entry_above : (table : Table) (bounds : List Ticks) (i : ℕ) → i < table.count
    → entry table bounds i ≡ bounded (row_of_index (rows_of table) i) (get_or (numbers bounds) i 0)
entry_above table bounds i h =
    rw (row_at_lem table i h, get_or-map (λ (t : Ticks). t.0) bounds i (ticks 0)) refl

-- so what holds of each row above holds of what the engine reads
pub each_entry : (P : Bounded → Type 0) (table : Table) (bounds : List Ticks) (k i : ℕ) → k ≤ table.count → i < k
    → Each P (above table bounds k) → P (entry table bounds i)
each_entry P table bounds k i within h each =
    subst⁻¹ P (entry_above table bounds i (omega arith)) (each_above P (rows_of table) (numbers bounds) k i h each)
