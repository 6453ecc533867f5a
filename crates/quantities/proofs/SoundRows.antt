-- Laws of rows that are sound each where it stands, by index and above an index; and which row is the last.
use Prim.Native.Nat.{ℕ, zero, suc, ◌+◌, ◌<◌}
use native.Mathlib.Omega.{arith}
use mathlib.Core.Path.{◌≡◌, sym}
use mathlib.Core.List.{List, [], ◌∷◌}
use lib.Dec.{eqb}
use lib.ListN.{length, get_or, take, drop, length-drop}
use borrow.Author.Tests.{eq-eqb, ne_eqb}
use Rattle.laws.specs.Each.{Each}
use Rattle.quantities.specs.Row.{SoundRow, no_row}
use Rattle.quantities.specs.Checks.{is_last, SoundAt, SoundRows}
use Rattle.quantities.specs.declared.Row.{Row}

-- rows are sound exactly where each is, since the last is asked for the same as any other
pub sound_rows_each : (rows : List Row) → SoundRows rows → Each SoundRow rows
sound_rows_each [] sound = tt
sound_rows_each (row ∷ rows) sound = (sound.0, sound_rows_each rows sound.1)

pub each_sound_rows : (rows : List Row) → Each SoundRow rows → SoundRows rows
each_sound_rows [] each = tt
each_sound_rows (row ∷ rows) each = (each.0, each_sound_rows rows each.1)

-- the row with an index
pub sound_row_at : (rows : List Row) (k : ℕ) → k < length rows → SoundRows rows
    → SoundAt (is_last (drop (suc k) rows)) (get_or rows k no_row)
sound_row_at [] k h sound = absurd (omega arith)
sound_row_at (row ∷ rows) zero h sound = sound.0
sound_row_at (row ∷ rows) (suc k) h sound = sound_row_at rows k (omega arith) sound.1

-- the rows above an index, none of which is the last
pub sound_rows_above : (rows : List Row) (k : ℕ) → k < length rows → SoundRows rows → Each SoundRow (take k rows)
sound_rows_above rows zero h sound = tt
sound_rows_above [] (suc k) h sound = absurd (omega arith)
sound_rows_above (row ∷ []) (suc k) h sound = absurd (omega arith)
sound_rows_above (row ∷ below ∷ rows) (suc k) h sound =
    (sound.0, sound_rows_above (below ∷ rows) k (omega arith) sound.1)

-- the last row is the one whose place is the number of rows
pub is_last_lem : (rows : List Row) (k : ℕ) → k < length rows → is_last (drop (suc k) rows) ≡ eqb (suc k) (length rows)
is_last_lem rows k h = go (drop (suc k) rows) (rw (length-drop (suc k) rows) (omega arith))
  where
    go : (below : List Row) → length below + suc k ≡ length rows → is_last below ≡ eqb (suc k) (length rows)
    go [] e = sym (eq-eqb (suc k) (length rows) (omega arith))
    go (row ∷ below) e = sym (ne_eqb (suc k) (length rows) (λ same. omega arith))
