-- What the rules ask of a row: the work of one poll, its deadline, and the gap between polls, as numbers of ticks.
use Rattle.std.specs.Prelude.{ℕ, ◌≤◌, ◌<◌}
use Rattle.quantities.specs.Limits.{largest_gap}
use Rattle.quantities.specs.declared.Row.{Row}

-- the most ticks that one poll of the row takes
abbrev pub cost : Row → ℕ
cost row = row.c.0

-- the ticks after its release by which a poll has to be over
abbrev pub deadline : Row → ℕ
deadline row = row.d.0

-- the fewest ticks between two releases of the row
abbrev pub gap : Row → ℕ
gap row = row.t.0

-- the row with this C, D and T
abbrev pub row_of : ℕ → ℕ → ℕ → Row
row_of c d t = record { c = record { 0 = c }; d = record { 0 = d }; t = record { 0 = t } }

-- what stands at a place of a table that holds no row
abbrev pub no_row : Row
no_row = row_of 0 0 0

-- A row that passes checks 3 to 6: 1 ≤ C ≤ D ≤ T, and T is at most the largest gap.
pub record SoundRow (row : Row) : Type 0 where
  pub some_work : 0 < cost row
  pub in_time : cost row ≤ deadline row
  pub in_gap : deadline row ≤ gap row
  pub short_gap : gap row ≤ largest_gap
