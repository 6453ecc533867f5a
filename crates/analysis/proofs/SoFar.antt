-- The walk down the table: what the bounds array holds when the rows above index i have their bounds.
use Rattle.std.specs.Prelude.{None, Some}
use Prim.Native.Nat.{ℕ, zero, suc, ◌-◌, ◌≤◌, ◌<◌}
use native.Mathlib.Omega.{arith}
use native.Mathlib.Nat.{le_refl}
use native.Mathlib.Numerals.{add-one}
use mathlib.Core.Path.{◌≡◌, refl, sym, ap, ap₂, subst⁻¹, ◌∙◌}
use mathlib.Core.List.{List, [], ◌∷◌, ◌++◌, append-nil}
use mathlib.Core.Option.{Option, none, some}
use lib.ListN.{length, get_or, take, drop, set, replicate, length-take, length-map, length-set}
use lib.Seq.{drop-cons, take-suc-set, drop-set-lt, drop-drop, get_or-set_same, get_or-set_other, append_snoc}
use Rattle.laws.specs.Each.{Each}
use Rattle.laws.proofs.Lists.{map_set}
use Rattle.laws.proofs.Tests.{not_one}
use Rattle.quantities.specs.Limits.{row_capacity}
use Rattle.quantities.specs.Row.{SoundRow, no_row}
use Rattle.quantities.specs.Table.{rows_of}
use Rattle.quantities.specs.Lengths.{ticks, numbers, in_array}
use Rattle.quantities.specs.declared.Row.{Row}
use Rattle.quantities.specs.declared.Table.{Table}
use Rattle.quantities.specs.declared.Ticks.{Ticks}
use Rattle.quantities.proofs.Rows.{length_rows, rows_end}
use Rattle.quantities.proofs.Lengths.{array_holds}
use Rattle.windows.specs.Choice.{Bounded, bounded, InRange}
use Rattle.windows.specs.Bound.{bound_of, bounds_below}
use Rattle.windows.specs.Answer.{late_number, verdict}
use Rattle.windows.specs.Judgement.{row_of_index, above_index}
use Rattle.windows.specs.declared.Answer.TheVariants.{Shown, NotShown}
use Rattle.windows.proofs.Bound.{bound_in_range, bounds_on, bounds_stop, bounds_end}
use Rattle.windows.proofs.Judgement.{verdict_all, verdict_short}
use Rattle.analysis.specs.Analysis.{analysis_of}
use Rattle.analysis.specs.Engine.{above, ShortGap, found_of}

-- The first i entries are the bounds of the rows above, which are in range and have short gaps, and the others are 0;
-- with the bounds of the rows from there on they are the bounds of the list.
pub record SoFar (cores : ℕ) (table : Table) (bounds : List Ticks) (i : ℕ) : Type 0 where
  pub few : table.count ≤ row_capacity
  pub within : i ≤ table.count
  pub long : length bounds ≡ row_capacity
  pub blank : drop i bounds ≡ replicate (row_capacity - i) (ticks 0)
  pub whole : take i (numbers bounds) ++ bounds_below cores (above table bounds i) (drop i (rows_of table))
      ≡ bounds_below cores [] (rows_of table)
  pub short : Each ShortGap (above table bounds i)
  pub range : Each InRange (above table bounds i)

-- before the first row
pub so_far_start : (cores : ℕ) (table : Table) → table.count ≤ row_capacity
    → SoFar cores table (replicate row_capacity (ticks 0)) 0
so_far_start cores table few =
    record { few = few; within = omega arith; long = refl; blank = refl; whole = refl; short = tt; range = tt }

-- a bound written at index i leaves the rows above it as they were
above_kept : (rows : List Row) (bounds : List ℕ) (k i b : ℕ) → k ≤ i → above_index rows (set bounds i b) k ≡ above_index rows bounds k
above_kept rows bounds zero i b h = refl
above_kept rows bounds (suc k) i b h =
    rw (get_or-set_other bounds i k b 0 (λ same. omega arith), above_kept rows bounds k i b (omega arith)) refl

module _ (cores : ℕ) (table : Table) (bounds : List Ticks) (i : ℕ)
    (so : SoFar cores table bounds i) where
  -- the bounds end here: the array holds them all
  ended : bounds_below cores (above table bounds i) (drop i (rows_of table)) ≡ []
      → (take i (numbers bounds) ≡ bounds_below cores [] (rows_of table)) × (length (bounds_below cores [] (rows_of table)) ≡ i) × (bounds ≡ in_array (bounds_below cores [] (rows_of table)))
  ended e =
      let all : take i (numbers bounds) ≡ bounds_below cores [] (rows_of table) = sym (append-nil (take i (numbers bounds))) ∙ (rw e at so.whole) in
      let long : length (take i (numbers bounds)) ≡ i =
      length-take i (numbers bounds) ∙ omega (arith, length-map bounds (λ (t : Ticks). t.0)) in
      (all, ap length (sym all) ∙ long, sym (rw all at (array_holds bounds i (omega arith) so.blank)))

  -- after the last row
  pub so_far_all : i ≡ table.count
      → record { answer = Shown; bounds = bounds } ≡ analysis_of (verdict table.count (bounds_below cores [] (rows_of table)))
  unfolding analysis_of
  so_far_all over =
      let past : drop i (rows_of table) ≡ [] = rw over (rows_end table) in
      let (all, long, held) = ended (rw past (bounds_end cores (above table bounds i))) in
      rw (verdict_all table.count (bounds_below cores [] (rows_of table)) (long ∙ over), ← held) refl

  module _ (h : i < table.count) where
    -- the rows from index i on
    from : drop i (rows_of table) ≡ row_of_index (rows_of table) i ∷ drop (suc i) (rows_of table)
    from = drop-cons (rows_of table) i no_row (omega (arith, length_rows table))

    -- the rows above the next index, when a bound is written
    above_next : (x : ℕ)
        → above table (set bounds i (ticks x)) (suc i) ≡ bounded (row_of_index (rows_of table) i) x ∷ above table bounds i
    above_next x =
        let inside : i < length (numbers bounds) = omega (arith, length-map bounds (λ (t : Ticks). t.0)) in
        let written = map_set (λ (t : Ticks). t.0) bounds i (ticks x) in
        ap₂ (λ (b : ℕ) (up : List Bounded). bounded (row_of_index (rows_of table) i) b ∷ up)
        (ap (λ (ns : List ℕ). get_or ns i 0) written ∙ get_or-set_same (numbers bounds) i x 0 inside)
        (ap (λ (ns : List ℕ). above_index (rows_of table) ns i) written
        ∙ above_kept (rows_of table) (numbers bounds) i i x (le_refl i))

    -- the row at index i has a bound
    pub so_far_next : (x : ℕ) → SoundRow (row_of_index (rows_of table) i)
        → bound_of cores (above table bounds i) (row_of_index (rows_of table) i) ≡ some x
        → SoFar cores table (set bounds i (ticks x)) (suc i)
    so_far_next x sound is =
        record {
          few = so.few;
          within = h;
          long = length-set bounds i (ticks x) ∙ so.long;
          blank = drop-set-lt (suc i) bounds i (ticks x) (le_refl (suc i)) ∙ sym (drop-drop 1 i bounds ∙ ap (λ n. drop n bounds) (add-one i)) ∙ ap (drop 1) (so.blank ∙ ap (λ n. replicate n (ticks 0)) left);
          whole =
              ap₂ (λ (firsts : List ℕ) (up : List Bounded). firsts ++ bounds_below cores up rest) firsts (above_next x)
              ∙ append_snoc (take i (numbers bounds)) x (bounds_below cores (bounded row x ∷ above table bounds i) rest)
              ∙ ap (λ bs. take i (numbers bounds) ++ bs)
              (sym (bounds_on cores x (above table bounds i) row rest is) ∙ ap (bounds_below cores (above table bounds i)) (sym from))
              ∙ so.whole;
          short =
              subst⁻¹ (λ (up : List Bounded). Each ShortGap up) (above_next x) (sound.short_gap, so.short);
          range =
              subst⁻¹ (λ (up : List Bounded). Each InRange up) (above_next x)
              (bound_in_range cores x (above table bounds i) row sound.some_work sound.in_gap is, so.range);
        }
      where
        row : Row
        row = row_of_index (rows_of table) i

        rest : List Row
        rest = drop (suc i) (rows_of table)

        left : row_capacity - i ≡ suc (row_capacity - suc i)
        left = omega arith

        firsts : take (suc i) (numbers (set bounds i (ticks x))) ≡ take i (numbers bounds) ++ (x ∷ [])
        firsts =
            ap (take (suc i)) (map_set (λ (t : Ticks). t.0) bounds i (ticks x))
            ∙ take-suc-set (numbers bounds) i x (omega (arith, length-map bounds (λ (t : Ticks). t.0)))

    -- it has none
    pub so_far_stop : bound_of cores (above table bounds i) (row_of_index (rows_of table) i) ≡ none
        → record { answer = NotShown late_number (suc i); bounds = bounds }
        ≡ analysis_of (verdict table.count (bounds_below cores [] (rows_of table)))
    unfolding analysis_of
    so_far_stop is =
        let (all, long, held) = ended (rw from (bounds_stop cores (above table bounds i) (row_of_index (rows_of table) i) (drop (suc i) (rows_of table)) is)) in
        rw (verdict_short table.count (bounds_below cores [] (rows_of table)) (λ e. omega (arith, long)), ← held, long) refl

-- what the code's answer for one row says of its bound
pub found_some : (found : Option ℕ) (t : Ticks) → found_of found ≡ Some t → found ≡ some t.0
unfolding found_of
found_some none t e = absurd (not_one cc)
found_some (some x) t e = let same : ticks x ≡ t = cc in ap (λ (l : Ticks). some l.0) same

pub found_none : (found : Option ℕ) → found_of found ≡ None → found ≡ none
unfolding found_of
found_none none e = refl
found_none (some x) e = absurd (not_one cc)
