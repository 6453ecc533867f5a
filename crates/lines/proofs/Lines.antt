-- Laws of the lines: the bounds may stand in an array, and those of one row more.
use Prim.Native.Nat.{ℕ, zero, suc, ◌+◌}
use native.Mathlib.Numerals.{add-one}
use mathlib.Core.Path.{◌≡◌, refl}
use mathlib.Core.List.{List, ◌++◌}
use lib.ListN.{get_or, get_or-map, length-append}
use Rattle.std.proofs.lemmas.List.{append_assoc}
use Rattle.quantities.specs.Row.{deadline}
use Rattle.quantities.specs.Lengths.{ticks, numbers, in_array}
use Rattle.quantities.specs.declared.Micros.{Micros}
use Rattle.quantities.specs.declared.Ticks.{Ticks}
use Rattle.quantities.proofs.Lengths.{get_d_array}
use Rattle.records.specs.declared.RowFields.{RowFields}
use Rattle.entries.specs.Entries.{row_in, no_entry}
use Rattle.lines.specs.Lines.{row_line, row_lines}

pub lines_in_array : (tick : Micros) (entries : List RowFields) (bounds : List ℕ) (k : ℕ)
    → row_lines tick entries (numbers (in_array bounds)) k ≡ row_lines tick entries bounds k
unfolding row_lines
lines_in_array tick entries bounds zero = refl
lines_in_array tick entries bounds (suc k) = rw (lines_in_array tick entries bounds k, get_d_array bounds k) refl

-- the line of the row with index i stands behind those before it
pub lines_more : (tick : Micros) (entries : List RowFields) (bounds : List Ticks) (i : ℕ)
    → row_lines tick entries (numbers bounds) (i + 1)
    ≡ row_lines tick entries (numbers bounds) i
    ++ row_line (i + 1) (get_or entries i no_entry).label (get_or bounds i (ticks 0)).0 (deadline (row_in tick (get_or entries i no_entry)))
unfolding row_lines
lines_more tick entries bounds i = rw (add-one, row_lines, get_or-map (λ (t : Ticks). t.0) bounds i (ticks 0)) refl

-- the steps of one line more
pub ruleset row_steps = (lines_more, append_assoc, length-append)
