-- The records of an order sheet written in bytes: each comes back as it was; the limits of what is taken.
use Rattle.std.specs.Prelude.{ℕ, zero, suc, ◌+◌, ◌/◌, ◌%◌, ◌≤◌, ◌<◌, ◌≡◌, true, false, List, [], ◌∷◌, ◌++◌, length, Ok}
use Rattle.laws.specs.Each.{Each}
use Rattle.records.specs.Records.{record_on, size_on, is_end}
use Rattle.records.specs.declared.RowFields.{RowFields}
use Rattle.records.specs.declared.Record.TheVariants.{Missing, Unknown, Cut, Board, Row, End}
use Rattle.sheet.specs.Reader.{read_of}
use Rattle.sheetpages.specs.Sheets.{byte, RowsPass, WholeWith, TurnedAway}

-- Numbers are unsigned, most significant byte first.
abbrev pub in_two : ℕ → List ℕ
in_two n = n / 256 ∷ n % 256 ∷ []

abbrev pub in_four : ℕ → List ℕ
in_four n = in_two (n / 65536) ++ in_two (n % 65536)

-- Kind 1, board: cores (1), tick length in µs (2).
abbrev pub board_bytes : (cores tick : ℕ) → List ℕ
board_bytes cores tick = 1 ∷ cores ∷ in_two tick

-- Kind 2, row: label (2), priority (2), C (4), D (4), T (4), times in µs.
abbrev pub row_bytes : (label priority c d t : ℕ) → List ℕ
row_bytes label priority c d t = 2 ∷ (in_two label ++ (in_two priority ++ (in_four c ++ (in_four d ++ in_four t))))

-- Kind 3, end: number of row records.
abbrev pub end_bytes : (count : ℕ) → List ℕ
end_bytes count = 3 ∷ count ∷ []

-- Numbers that their fields have room for.
pub record BoardFits (cores tick : ℕ) : Type 0 where
  pub cores_fit : cores < 256
  pub tick_fits : tick < 65536

pub record RowFits (label priority c d t : ℕ) : Type 0 where
  pub label_fits : label < 65536
  pub priority_fits : priority < 65536
  pub c_fits : c < 4294967296
  pub d_fits : d < 4294967296
  pub t_fits : t < 4294967296

-- Each is a byte.
abbrev pub Bytes : List ℕ → Type 0
Bytes part = Each (λ one. one < 256) part

-- A record that is written in bytes comes back with each number in its field, whatever stands behind it.
pub record RecordsComeBack : Type 0 where
  pub board : (cores tick : ℕ) (rest : List ℕ) → BoardFits cores tick
      → Bytes (board_bytes cores tick)
      × (record_on (board_bytes cores tick ++ rest) ≡ Board cores (record { 0 = tick }))
  pub row : (label priority c d t : ℕ) (rest : List ℕ) → RowFits label priority c d t
      → Bytes (row_bytes label priority c d t)
      × (record_on (row_bytes label priority c d t ++ rest)
      ≡ Row
      (record {
        label = label;
        priority = priority;
        c = record { 0 = c };
        d = record { 0 = d };
        t = record { 0 = t };
      }))
  pub end : (count : ℕ) (rest : List ℕ) → count < 256
      → Bytes (end_bytes count) × (record_on (end_bytes count ++ rest) ≡ End count)

-- What stands on a part where a record should: no byte, a kind that is not 1, 2 or 3, or a record cut short;
-- how many bytes each takes, whole or cut short, whatever stands behind it, and which is the end.
pub record PartsTold : Type 0 where
  pub no_byte : record_on [] ≡ Missing
  pub unknown : (kind : ℕ) (rest : List ℕ) → (kind ≡ 1 → ⊥) → (kind ≡ 2 → ⊥) → (kind ≡ 3 → ⊥)
      → record_on (kind ∷ rest) ≡ Unknown
  pub cut_board : (rest : List ℕ) → length rest < 3 → record_on (1 ∷ rest) ≡ Cut 1
  pub cut_row : (rest : List ℕ) → length rest < 16 → record_on (2 ∷ rest) ≡ Cut 2
  pub cut_end : record_on (3 ∷ []) ≡ Cut 3
  pub size_of_board : (rest : List ℕ) → size_on (1 ∷ rest) ≡ 4
  pub size_of_row : (rest : List ℕ) → size_on (2 ∷ rest) ≡ 17
  pub size_of_end : (rest : List ℕ) → size_on (3 ∷ rest) ≡ 2
  pub no_size : size_on [] ≡ 0
  pub size_of_unknown : (kind : ℕ) (rest : List ℕ) → (kind ≡ 1 → ⊥) → (kind ≡ 2 → ⊥) → (kind ≡ 3 → ⊥)
      → size_on (kind ∷ rest) ≡ 0
  pub the_end : (count : ℕ) → is_end (End count) ≡ true
  pub no_end : (fields : RowFields) (cores tick kind : ℕ)
      → (is_end (Row fields) ≡ false)
      × (is_end (Board cores (record { 0 = tick })) ≡ false)
      × (is_end (Cut kind) ≡ false)
      × (is_end Missing ≡ false)
      × (is_end Unknown ≡ false)

-- a sheet of one row
abbrev pub one_row : (cores tick label priority c d t : ℕ) → List ℕ
one_row cores tick label priority c d t =
    board_bytes cores tick ++ (row_bytes label priority c d t ++ end_bytes 1)

-- Priority is 1 to 999; 0 is a box not filled. The row record begins at byte 4.
pub record PrioritiesTo999 : Type 0 where
  pub taken : (cores tick label priority c d t : ℕ) → BoardFits cores tick → RowFits label priority c d t
      → 0 < tick → 1 ≤ priority → priority ≤ 999
      → (read_of (one_row cores tick label priority c d t)).verdict ≡ Ok tt
  pub above : (cores tick label priority c d t : ℕ) → BoardFits cores tick → RowFits label priority c d t
      → 0 < tick → 1000 ≤ priority
      → TurnedAway 16 4 (read_of (one_row cores tick label priority c d t))
  pub not_filled : (cores tick label c d t : ℕ) → BoardFits cores tick → RowFits label 0 c d t → 0 < tick
      → TurnedAway 16 4 (read_of (one_row cores tick label 0 c d t))

-- Rows: 1 to 32. 32 rows take the bytes 4 to 547; a 33rd row record begins at byte 548.
abbrev pub RowRecordsTo32 : Type 0
RowRecordsTo32 =
    (sheet : List ℕ) → RowsPass sheet 32 → byte sheet 548 ≡ 2 → 565 ≤ length sheet
    → TurnedAway 14 548 (read_of sheet)

-- rows with the priorities from one on, this many, each of label 0 (no floor, which may repeat) and of 1 tick
abbrev pub rows_from : (priority rows : ℕ) → List ℕ
rows_from priority zero = []
rows_from priority (suc n) = row_bytes 0 priority 1 1 1 ++ rows_from (priority + 1) n

-- There are sheets of 32 rows without fault, and of 550 bytes.
abbrev pub ThirtyTwoTaken : Type 0
ThirtyTwoTaken =
    (length (board_bytes 1 1 ++ (rows_from 1 32 ++ end_bytes 32)) ≡ 550)
    × WholeWith (board_bytes 1 1 ++ (rows_from 1 32 ++ end_bytes 32)) 32
