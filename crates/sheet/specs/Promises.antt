-- What the reader promises of every sheet, a type for each sentence. proofs/Promises.antt proves each.
use Rattle.std.specs.Prelude.{ℕ, ◌≤◌, ◌<◌, ◌≡◌, ◌⊎◌, List, ◌++◌, map, length, take, Ok, Err}
use Rattle.laws.specs.Permuted.{Permuted}
use Rattle.quantities.specs.Paper.{Paper, paper}
use Rattle.quantities.specs.Table.{rows_of}
use Rattle.quantities.specs.declared.Micros.{Micros}
use Rattle.entries.specs.Entries.{row_in, entries_of, table_in, table_of, Rising}
use Rattle.sheet.specs.Checks.{fault}
use Rattle.sheet.specs.Reader.{no_sheet, refused, whole, unread, ended, first_sheet_of, read_of, verdict_paper}
use Rattle.sheet.specs.Faults.{record_at, ReadTo, FirstFault, FaultAt}
use Rattle.records.specs.Records.{cores_on, tick_on}
use Rattle.sheet.specs.Whole.{entries_on, WholeSheet, bytes_of, MadeOf}
use Rattle.records.specs.declared.Record.TheVariants.{Missing}
use Rattle.sheet.specs.declared.Reading.{Reading}
use Rattle.sheet.specs.declared.Outcome.{Outcome}

-- A sheet is without fault exactly when it is a board record, rows in any order and an end record,
-- as the rules ask.
abbrev pub WholeExactly : Type 0
WholeExactly =
    (sheet : List ℕ)
    → ((read_of sheet).verdict ≡ Ok tt → MadeOf sheet) × (MadeOf sheet → (read_of sheet).verdict ≡ Ok tt)

-- Four sentences about a reader of sheets; ours, `read_of`, keeps them. Its answer has the board's cores and tick
-- length.
abbrev pub BoardAnswered : (List ℕ → Outcome) → Type 0
BoardAnswered read =
    (sheet : List ℕ) (made : MadeOf sheet)
    → ((read sheet).sheet.cores ≡ cores_on made.board) × ((read sheet).sheet.tick ≡ tick_on made.board)

-- Its rows are exactly the sheet's rows, each once, with their labels and their times.
abbrev pub EachRowOnce : (List ℕ → Outcome) → Type 0
EachRowOnce read =
    (sheet : List ℕ) (made : MadeOf sheet)
    → Permuted (entries_on made.rows) (entries_of (read sheet).sheet)

-- Their priorities rise strictly.
abbrev pub PrioritiesRise : (List ℕ → Outcome) → Type 0
PrioritiesRise read = (sheet : List ℕ) → Rising (entries_of (read sheet).sheet)

-- The table in ticks of any length has the rows in that order, their times in these ticks; the table, in the board's.
abbrev pub TableInOrder : (List ℕ → Outcome) → Type 0
TableInOrder read =
    (sheet : List ℕ)
    → ((tick : Micros) → rows_of (table_in (read sheet).sheet tick) ≡ map (row_in tick) (entries_of (read sheet).sheet))
    × (rows_of (table_of (read sheet).sheet) ≡ map (row_in (read sheet).sheet.tick) (entries_of (read sheet).sheet))

-- Permuting the row records of a sheet without fault leaves its answer the same.
abbrev pub AnyOrder : Type 0
AnyOrder =
    (board : List ℕ) (rows others : List (List ℕ)) (end : List ℕ)
    → Permuted rows others → WholeSheet board rows end
    → read_of (bytes_of board others end) ≡ read_of (bytes_of board rows end)

-- A refused sheet yields no table.
abbrev pub NoTableRefused : Type 0
NoTableRefused =
    (sheet : List ℕ) (number place : ℕ)
    → (read_of sheet).verdict ≡ Err (fault number place) → read_of sheet ≡ refused number place

-- A sheet with a fault is turned away by its first one, with the number and the place of the failing check, and no
-- table.
abbrev pub FaultySheetTurnedAway : Type 0
FaultySheetTurnedAway =
    (sheet : List ℕ) (one : Paper) → FirstFault sheet one
    → (verdict_paper (read_of sheet).verdict ≡ paper one.number one.place) × ((read_of sheet).sheet ≡ no_sheet)

-- Where no byte stands, the sheet is refused by 11, and the place is its length.
abbrev pub MissingAtTheEnd : Type 0
MissingAtTheEnd =
    (sheet : List ℕ) (reading : Reading) (at : ℕ)
    → ReadTo sheet reading at → record_at sheet at ≡ Missing → read_of sheet ≡ refused 11 (length sheet)

-- And a sheet that is refused has that fault.
abbrev pub RefusedByFirstFault : Type 0
RefusedByFirstFault =
    (sheet : List ℕ) (number place : ℕ)
    → (read_of sheet).verdict ≡ Err (fault number place) → FaultAt sheet number place

-- A sheet without fault is at most 550 bytes.
abbrev pub AtMost550 : Type 0
AtMost550 = (sheet : List ℕ) → (read_of sheet).verdict ≡ Ok tt → length sheet ≤ 550

-- The answer depends on the first 1,024 bytes alone.
abbrev pub First1024 : Type 0
First1024 = (sheet : List ℕ) → read_of (take 1024 sheet) ≡ read_of sheet

-- What `read` ensures leaves one outcome.
abbrev pub OneOutcome : Type 0
OneOutcome = (sheet : List ℕ) (a b : Outcome) → a ≡ read_of sheet → b ≡ read_of sheet → a ≡ b

-- The first sheet on some bytes: those up to its end are a whole sheet by themselves, with the same answer.
abbrev pub FirstSheetIsWhole : Type 0
FirstSheetIsWhole =
    (bytes : List ℕ) → (first_sheet_of bytes).verdict ≡ Ok tt
    → ((first_sheet_of bytes).end ≤ length bytes)
    × (read_of (take (first_sheet_of bytes).end bytes) ≡ whole (first_sheet_of bytes).sheet)
    × MadeOf (take (first_sheet_of bytes).end bytes)

-- And a whole sheet is the first one, with its own end, whatever stands behind it.
abbrev pub WholeSheetIsFirst : Type 0
WholeSheetIsFirst =
    (sheet rest : List ℕ) → (read_of sheet).verdict ≡ Ok tt
    → first_sheet_of (sheet ++ rest) ≡ ended (read_of sheet).sheet (length sheet)

-- Where no first sheet is read, the bytes as one sheet are refused by the same number and place.
abbrev pub FirstSheetRefused : Type 0
FirstSheetRefused =
    (bytes : List ℕ) (number place : ℕ) → (first_sheet_of bytes).verdict ≡ Err (fault number place)
    → (first_sheet_of bytes ≡ unread number place) × (read_of bytes ≡ refused number place)

-- The bytes as one sheet are refused for nothing else but 18, at the end of the first sheet.
abbrev pub RefusedBehindTheFirst : Type 0
RefusedBehindTheFirst =
    (bytes : List ℕ) (number place : ℕ) → (read_of bytes).verdict ≡ Err (fault number place)
    → ((first_sheet_of bytes).verdict ≡ Err (fault number place))
    ⊎ (((first_sheet_of bytes).verdict ≡ Ok tt) × ((first_sheet_of bytes).end < length bytes)
    × (number ≡ 18) × (place ≡ (first_sheet_of bytes).end))
