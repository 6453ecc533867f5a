-- The first fault of a sheet, said literally: the first check that fails, of the first record that fails one.
use Rattle.std.specs.Prelude.{ℕ, ◌+◌, ◌≡◌, ◌⊎◌, true, false, List, ◌++◌, length, take, drop}
use Rattle.laws.specs.Each.{Each}
use Rattle.laws.specs.Permuted.{Permuted}
use Rattle.laws.specs.Checks.{Check, FirstFailing}
use Rattle.quantities.specs.Paper.{Paper, paper}
use Rattle.records.specs.Records.{board_kind, record_on, size_on, is_end, OneRecord, RowRecord}
use Rattle.entries.specs.Entries.{entries_of}
use Rattle.sheet.specs.Whole.{joined, entries_on}
use Rattle.records.specs.declared.Record.{Record}
use Rattle.sheet.specs.Checks.{record_checks}
use Rattle.sheet.specs.Reader.{new_reading, after_record}
use Rattle.sheet.specs.declared.Reading.{Reading}

-- what stands at a place of a sheet where a record should
abbrev pub record_at : List ℕ → ℕ → Record
record_at sheet at = record_on (drop at sheet)

-- how many bytes it takes
abbrev pub size_at : List ℕ → ℕ → ℕ
size_at sheet at = size_on (drop at sheet)

-- its checks, in their order, after the records that gave this reading
abbrev pub checks_at : List ℕ → Reading → ℕ → List (Check Paper)
checks_at sheet reading at = record_checks at (length (drop at sheet)) reading (record_at sheet at)

-- The records up to a place are read and gave this reading: none fails a check, and none is the end record.
pub data ReadTo (sheet : List ℕ) : Reading → ℕ → Type 0 where
  start : ReadTo sheet new_reading 0
  next : {reading : Reading} {at : ℕ} → ReadTo sheet reading at
      → Each (λ one. one.fails ≡ false) (checks_at sheet reading at)
      → is_end (record_at sheet at) ≡ false
      → ReadTo sheet (after_record reading (record_at sheet at)) (at + size_at sheet at)

-- The rows that a reading knows are those of the sheet up to a place: a board record, then row records, each entered
-- once.
pub record RowsRead (sheet : List ℕ) (reading : Reading) (at : ℕ) : Type 0 where
  pub board : List ℕ
  pub rows : List (List ℕ)
  pub stand : take at sheet ≡ board ++ joined rows
  pub ends : at ≡ length (board ++ joined rows)
  pub board_first : OneRecord board_kind board
  pub then_rows : Each RowRecord rows
  pub begun : reading.begun ≡ true
  pub counted : reading.sheet.count ≡ length rows
  pub entered : Permuted (entries_on rows) (entries_of reading.sheet)

-- What a reading stands for: nothing was read, or a board record and rows were.
abbrev pub ReadToMeans : Type 0
ReadToMeans =
    (sheet : List ℕ) (reading : Reading) (at : ℕ) → ReadTo sheet reading at
    → ((at ≡ 0) × (reading ≡ new_reading)) ⊎ RowsRead sheet reading at

-- The first check of a sheet that fails tells this: the records before are read, and it is the first of its own.
pub record FirstFault (sheet : List ℕ) (one : Paper) : Type 0 where
  pub reading : Reading
  pub at : ℕ
  pub before : ReadTo sheet reading at
  pub first : FirstFailing (checks_at sheet reading at) one

-- The first fault of a sheet has this number and this place.
abbrev pub FaultAt : List ℕ → (number place : ℕ) → Type 0
FaultAt sheet number place = FirstFault sheet (paper number place)
