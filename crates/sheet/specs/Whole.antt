-- A sheet without fault in the document's words: a board record, rows in any order, an end record, no more.
use Rattle.std.specs.Prelude.{ℕ, ◌≤◌, ◌<◌, ◌≡◌, List, [], ◌∷◌, ◌++◌, length}
use Rattle.laws.specs.Each.{Each}
use Rattle.quantities.specs.Limits.{row_capacity}
use Rattle.records.specs.Records.{board_kind, end_kind, tick_on, count_on, row_fields, OneRecord, RowRecord}
use Rattle.entries.specs.Entries.{Different}
use Rattle.sheet.specs.Checks.{top_priority}
use Rattle.records.specs.declared.RowFields.{RowFields}

-- parts one after the other
unfoldable pub joined : List (List ℕ) → List ℕ
joined [] = []
joined (part ∷ parts) = part ++ joined parts

-- the entries that row records give, in the order of the records
unfoldable pub entries_on : List (List ℕ) → List RowFields
entries_on [] = []
entries_on (row ∷ rows) = row_fields row ∷ entries_on rows

-- Priority is 1 to 999.
pub record PriorityInRange (entry : RowFields) : Type 0 where
  pub filled : 0 < entry.priority
  pub in_range : entry.priority ≤ top_priority

-- A board record, row records and an end record that make a sheet without fault.
pub record WholeSheet (board : List ℕ) (rows : List (List ℕ)) (end : List ℕ) : Type 0 where
  pub board_first : OneRecord board_kind board
  pub some_tick : 0 < (tick_on board).0
  pub then_rows : Each RowRecord rows
  pub few_rows : length rows ≤ row_capacity
  pub permitted : Each PriorityInRange (entries_on rows)
  pub different : Different (entries_on rows)
  pub end_last : OneRecord end_kind end
  pub counted : count_on end ≡ length rows

-- the sheet that they make
abbrev pub bytes_of : List ℕ → List (List ℕ) → List ℕ → List ℕ
bytes_of board rows end = board ++ (joined rows ++ end)

-- A sheet that is made of such records.
pub record MadeOf (bytes : List ℕ) : Type 0 where
  pub board : List ℕ
  pub rows : List (List ℕ)
  pub end : List ℕ
  pub made : bytes ≡ bytes_of board rows end
  pub in_order : WholeSheet board rows end
