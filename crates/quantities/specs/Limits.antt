-- The limits of a table; the code's constants are tied to them by Table::row_capacity, core_limit and largest_gap.
use Rattle.std.specs.Prelude.{ℕ}

-- the most rows of a list
abbrev pub row_capacity : ℕ
row_capacity = 32

-- the most cores of a board
abbrev pub core_limit : ℕ
core_limit = 16

-- the largest gap of a row, in ticks
abbrev pub largest_gap : ℕ
largest_gap = 1000000
