-- Lengths in ticks and their numbers, and numbers in an array with an entry for each row of a full table.
use Rattle.std.specs.Prelude.{ℕ, ◌-◌, List, ◌++◌, map, length, replicate}
use Rattle.quantities.specs.Limits.{row_capacity}
use Rattle.quantities.specs.declared.Ticks.{Ticks}

-- a number of ticks as a length, and lengths as numbers
abbrev pub ticks : ℕ → Ticks
ticks n = record { 0 = n }

abbrev pub numbers : List Ticks → List ℕ
numbers = map (λ (t : Ticks). t.0)

-- bounds in an array with an entry for each row of a full table: 0 in those that have none
unfoldable pub in_array : List ℕ → List Ticks
in_array bounds = map ticks bounds ++ replicate (row_capacity - length bounds) (ticks 0)
