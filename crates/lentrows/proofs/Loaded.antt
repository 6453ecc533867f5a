-- Laws of the table that a list makes: its rows are the list's, and where there are too many the answer is the same.
use Prim.Native.Nat.{ℕ, zero, suc, ◌≤◌, ◌<◌}
use native.Mathlib.Omega.{arith}
use native.Mathlib.Decide.{dec_le}
use mathlib.Core.Path.{◌≡◌, refl, sym, ap, ◌∙◌}
use mathlib.Core.List.{List, [], ◌∷◌, ◌++◌}
use mathlib.Core.Option.{some}
use lib.ListN.{length, take, length-replicate}
use lib.Seq.{take-suc, take-length}
use Rattle.quantities.specs.Limits.{row_capacity}
use Rattle.quantities.specs.Row.{no_row}
use Rattle.quantities.specs.Table.{rows_of, empty_table, with_row}
use Rattle.quantities.specs.Checks.{list_fault}
use Rattle.quantities.specs.declared.Row.{Row}
use Rattle.quantities.specs.declared.Table.{Table}
use Rattle.quantities.specs.declared.Fault.TheVariants.{WholeList}
use Rattle.quantities.proofs.Checks.{list_fault_many_rows}
use Rattle.quantities.proofs.Rows.{length_rows, with_row_full, with_row_count, with_row_length, with_row_rows}
use Rattle.windows.specs.Answer.{judged_into}
use Rattle.windows.specs.Judgement.{row_of_index}
use Rattle.lentrows.specs.Loaded.{loaded, loaded_table}
use Rattle.windows.proofs.Into.{into_faulty}

-- A table with room for 32 rows holds the first n of a list.
record Holds (rows : List Row) (n : ℕ) (table : Table) : Type 0 where
  counts : table.count ≡ n
  long : length table.rows ≡ row_capacity
  kept : rows_of table ≡ take n rows

module _ (rows : List Row) where
  holds_none : Holds rows 0 empty_table
  unfolding empty_table rows_of
  holds_none = record { counts = refl; long = length-replicate row_capacity no_row; kept = refl }

  holds_next : (n : ℕ) (table : Table) → n < row_capacity → n < length rows → Holds rows n table
      → Holds rows (suc n) (with_row table (row_of_index rows n))
  holds_next n table few h held =
      let row = row_of_index rows n in
      let room : table.count < row_capacity = omega (arith, held.counts) in
      record {
        counts = omega (arith, with_row_count table row room, held.counts);
        long = with_row_length table row ∙ held.long;
        kept =
            with_row_rows table row held.long room
            ∙ ap (λ (first : List Row). first ++ (row ∷ [])) held.kept
            ∙ sym (take-suc rows n no_row h);
      }

  -- as long as the rows fit, the table holds those loaded
  holds_loaded : (n : ℕ) → n ≤ row_capacity → n ≤ length rows → Holds rows n (loaded n rows)
  unfolding loaded
  holds_loaded zero few h = holds_none
  holds_loaded (suc n) few h =
      holds_next n (loaded n rows) (omega arith) (omega arith) (holds_loaded n (omega arith) (omega arith))

  -- and past the capacity it counts one row too many
  full_loaded : (n : ℕ) → row_capacity < n → n ≤ length rows → (loaded n rows).count ≡ suc row_capacity
  unfolding loaded
  full_loaded zero few h = absurd (omega arith)
  full_loaded (suc n) few h =
      ap (λ (t : Table). t.count)
      (with_row_full (loaded n rows) (row_of_index rows n) (full (dec_le n row_capacity) (full_loaded n)))
    where
      full : Dec (n ≤ row_capacity) → (row_capacity < n → n ≤ length rows → (loaded n rows).count ≡ suc row_capacity)
          → row_capacity ≤ (loaded n rows).count
      full (yes l) past = omega (arith, (holds_loaded n l (omega arith)).counts)
      full (no l) past = omega (arith, past (omega arith) (omega arith))

  -- a list that fits is the rows of its table
  pub rows_loaded : length rows ≤ row_capacity → rows_of (loaded_table rows) ≡ rows
  rows_loaded few = (holds_loaded (length rows) few (omega arith)).kept ∙ take-length rows

  -- too many rows are fault 1, and so is the table that they make
  many_faulty : (cores : ℕ) → row_capacity < length rows
      → (list_fault cores rows ≡ some (WholeList 1)) × (list_fault cores (rows_of (loaded_table rows)) ≡ some (WholeList 1))
  many_faulty cores many =
      let counted : length (rows_of (loaded_table rows)) ≡ suc row_capacity = length_rows (loaded_table rows) ∙ full_loaded (length rows) many (omega arith) in (
        list_fault_many_rows cores rows (λ e. omega arith) many,
        list_fault_many_rows cores (rows_of (loaded_table rows)) (λ e. omega arith) (omega arith),
      )

  -- The table that a list makes has the list's answer, for every list.
  pub into_loaded : (cores entries : ℕ) → judged_into cores entries (rows_of (loaded_table rows)) ≡ judged_into cores entries rows
  into_loaded cores entries = go (dec_le (length rows) row_capacity)
    where
      go : Dec (length rows ≤ row_capacity)
          → judged_into cores entries (rows_of (loaded_table rows)) ≡ judged_into cores entries rows
      go (yes few) = ap (judged_into cores entries) (rows_loaded few)
      go (no l) =
          let faulty = many_faulty cores (omega arith) in
          into_faulty cores entries (rows_of (loaded_table rows)) (WholeList 1) faulty.1
          ∙ sym (into_faulty cores entries rows (WholeList 1) faulty.0)
