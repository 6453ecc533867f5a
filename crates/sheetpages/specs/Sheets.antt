-- The order sheet in bytes: which sheets are taken, which number and place turn one away, and what is read.
use Rattle.std.specs.Prelude.{ℕ, zero, suc, ◌+◌, ◌-◌, ◌*◌, ◌≤◌, ◌<◌, ◌≡◌, ◌⊎◌, Bool, false, not, cond, ◌||◌, List, [], ◌∷◌, ◌++◌, eqb, leb, ltb, length, get_or, take, drop, replicate, Ok, Err}
use Rattle.laws.specs.Each.{Each}
use Rattle.laws.specs.Permuted.{Permuted}
use Rattle.laws.specs.Checks.{Check, FirstFailing}
use Rattle.quantities.specs.Checks.{check}
use Rattle.quantities.specs.Paper.{Paper, paper}
use Rattle.quantities.specs.declared.Row.{Row}
use Rattle.quantities.specs.Table.{rows_of}
use Rattle.entries.specs.Entries.{entries_of, table_of}
use Rattle.sheet.specs.Reader.{read_of, verdict_paper}
use Rattle.records.specs.declared.RowFields.{RowFields}
use Rattle.entries.specs.declared.Sheet.{Sheet}
use Rattle.sheet.specs.declared.Outcome.{Outcome}

-- Byte places count from 0. Numbers are unsigned, most significant byte first.
abbrev pub byte : List ℕ → (place : ℕ) → ℕ
byte sheet place = get_or sheet place 0

abbrev pub two_bytes : List ℕ → (place : ℕ) → ℕ
two_bytes sheet place = byte sheet place * 256 + byte sheet (place + 1)

abbrev pub four_bytes : List ℕ → (place : ℕ) → ℕ
four_bytes sheet place = two_bytes sheet place * 65536 + two_bytes sheet (place + 2)

-- One byte of kind, then a body whose length the kind fixes: of a board (1) 3 bytes, of a row (2) 16, of an
-- end (3) 1.
abbrev pub body_length : (kind : ℕ) → ℕ
body_length kind = cond (eqb kind 1) 3 (cond (eqb kind 2) 16 1)

-- A board record takes 4 bytes and a row record 17: where the record after a board and this many rows begins.
abbrev pub behind : (rows : ℕ) → ℕ
behind rows = 4 + 17 * rows

-- A board record: kind, cores (1), tick length in µs (2). The sheet begins with it.
abbrev pub cores_of : List ℕ → ℕ
cores_of sheet = byte sheet 1

abbrev pub tick_of : List ℕ → ℕ
tick_of sheet = two_bytes sheet 2

-- A row record: kind, label (2), priority (2), C (4), D (4), T (4), times in µs. It begins at this place.
abbrev pub label_at : List ℕ → (place : ℕ) → ℕ
label_at sheet place = two_bytes sheet (place + 1)

abbrev pub priority_at : List ℕ → (place : ℕ) → ℕ
priority_at sheet place = two_bytes sheet (place + 3)

-- whether one of the first rows of the sheet, this many, has this priority
abbrev pub used_before : List ℕ → (rows : ℕ) → (priority : ℕ) → Bool
used_before sheet zero priority = false
used_before sheet (suc n) priority = eqb (priority_at sheet (behind n)) priority || used_before sheet n priority

-- Order, sheet: at each record 11 (no byte; the place is the sheet's length), 12, 13, 11 (cut short; the
-- place is its kind byte). The record should start at this place; 13 fails where it is misplaced.
abbrev pub common_order : List ℕ → (place : ℕ) → (misplaced : Bool) → List (Check Paper)
common_order sheet place misplaced =
    check 11 (length sheet) (leb (length sheet) place)
    ∷ check 12 place (not (eqb (byte sheet place) 1 || eqb (byte sheet place) 2 || eqb (byte sheet place) 3))
    ∷ check 13 place misplaced
    ∷ check 11 place (ltb (length sheet) (place + 1 + body_length (byte sheet place)))
    ∷ []

-- The first record: 13 where it is not a board; then board 19, tick length 0.
abbrev pub board_order : List ℕ → List (Check Paper)
board_order sheet =
    common_order sheet 0 (not (eqb (byte sheet 0) 1))
    ++ (check 19 0 (eqb (tick_of sheet) 0) ∷ [])

-- Row 14, 16, 15, of the record after this many rows: a 33rd row record; priority 0 or above 999; priority
-- already used.
abbrev pub row_record_order : List ℕ → (rows : ℕ) → List (Check Paper)
row_record_order sheet n =
    check 14 (behind n) (leb 32 n)
    ∷ check 16 (behind n) (eqb (priority_at sheet (behind n)) 0 || ltb 999 (priority_at sheet (behind n)))
    ∷ check 15 (behind n) (used_before sheet n (priority_at sheet (behind n)))
    ∷ []

-- End 17, 18: the end count differs from the rows read; bytes after the end record, at the first of them.
abbrev pub end_order : List ℕ → (rows : ℕ) → List (Check Paper)
end_order sheet n =
    check 17 (behind n) (not (eqb (byte sheet (behind n + 1)) n))
    ∷ check 18 (behind n + 2) (ltb (behind n + 2) (length sheet))
    ∷ []

-- A later record, after the board and this many rows: 13 where it is a board; then as a row or as an end.
abbrev pub later_order : List ℕ → (rows : ℕ) → List (Check Paper)
later_order sheet n =
    common_order sheet (behind n) (eqb (byte sheet (behind n)) 1)
    ++ cond (eqb (byte sheet (behind n)) 2) (row_record_order sheet n) (end_order sheet n)

-- None of these checks fails.
abbrev pub AllPass : List (Check Paper) → Type 0
AllPass checks = Each (λ one. one.fails ≡ false) checks

-- The board record and the first rows, this many, fail no check: the board record first and once, then rows.
abbrev pub RowsPass : List ℕ → (rows : ℕ) → Type 0
RowsPass sheet zero = AllPass (board_order sheet)
RowsPass sheet (suc n) = RowsPass sheet n × AllPass (later_order sheet n) × (byte sheet (behind n) ≡ 2)

-- The sheet's first fault, records as they stand: the first check that fails, of the board record or of the
-- record after this many rows.
pub data FirstFault (sheet : List ℕ) (one : Paper) : Type 0 where
  at_the_board : FirstFailing (board_order sheet) one → FirstFault sheet one
  after_rows : (n : ℕ) → RowsPass sheet n → FirstFailing (later_order sheet n) one → FirstFault sheet one

-- A sheet without fault, of this many rows: after them comes an end record that fails no check.
pub record WholeWith (sheet : List ℕ) (n : ℕ) : Type 0 where
  pub rows_pass : RowsPass sheet n
  pub end_passes : AllPass (later_order sheet n)
  pub is_end_holds : byte sheet (behind n) ≡ 3

-- an entry that holds no row
abbrev pub blank_entry : RowFields
blank_entry =
    record {
      label = 0;
      priority = 0;
      c = record { 0 = 0 };
      d = record { 0 = 0 };
      t = record { 0 = 0 };
    }

-- a sheet of no board and no row: each of its 32 entries is blank
abbrev pub blank_sheet : Sheet
blank_sheet = record { cores = 0; tick = record { 0 = 0 }; count = 0; entries = replicate 32 blank_entry }

-- A sheet is turned away with a number and a place. A refused sheet yields no table.
pub record TurnedAway (number place : ℕ) (outcome : Outcome) : Type 0 where
  pub answers : outcome.verdict ≡ Err (record { number = number; place = place })
  pub on_paper : verdict_paper outcome.verdict ≡ paper number place
  pub no_sheet_holds : outcome.sheet ≡ blank_sheet
  pub no_entries : entries_of outcome.sheet ≡ []
  pub no_rows : rows_of (table_of outcome.sheet) ≡ []

-- A sheet with a fault is turned away by its first one.
abbrev pub SheetTurnedAway : Type 0
SheetTurnedAway =
    (sheet : List ℕ) (one : Paper) → FirstFault sheet one
    → TurnedAway one.number one.place (read_of sheet)

-- A sheet without fault is taken.
abbrev pub SheetTaken : Type 0
SheetTaken = (sheet : List ℕ) (n : ℕ) → WholeWith sheet n → (read_of sheet).verdict ≡ Ok tt

-- A sheet without fault is a board record, rows, an end record and nothing more: at most 550 bytes.
abbrev pub WholeLength : Type 0
WholeLength =
    (sheet : List ℕ) (n : ℕ) → WholeWith sheet n → (length sheet ≡ 4 + 17 * n + 2) × (n ≤ 32) × (length sheet ≤ 550)

-- A sheet that is taken is without fault; one that is refused has a first fault of that number and place.
abbrev pub TakenSheetIsWhole : Type 0
TakenSheetIsWhole = (sheet : List ℕ) → (read_of sheet).verdict ≡ Ok tt → (n : ℕ) × WholeWith sheet n

abbrev pub RefusedSheetHasFault : Type 0
RefusedSheetHasFault =
    (sheet : List ℕ) (number place : ℕ) → (read_of sheet).verdict ≡ Err (record { number = number; place = place })
    → (one : Paper) × FirstFault sheet one × (one.number ≡ number) × (one.place ≡ place)

-- Every sheet is without fault, or it has a first one.
abbrev pub SheetEither : Type 0
SheetEither = (sheet : List ℕ) → ((n : ℕ) × WholeWith sheet n) ⊎ ((one : Paper) × FirstFault sheet one)

-- A sheet that ends where a record should start is turned away by 11 at its length: behind a board and rows,
-- and the empty sheet at 0.
pub record NoByteAtTheEnd : Type 0 where
  pub behind_rows : (sheet : List ℕ) (n : ℕ) → RowsPass sheet n → length sheet ≡ behind n
      → TurnedAway 11 (length sheet) (read_of sheet)
  pub empty : TurnedAway 11 0 (read_of [])

-- Each time becomes ticks by whole division by the tick length, the remainder dropped.
pub record InTicks (tick time ticks : ℕ) : Type 0 where
  pub no_more : ticks * tick ≤ time
  pub no_less : time < (ticks + 1) * tick

-- An entry is read of the row record that begins at this place, its times in µs.
pub record RowRead (sheet : List ℕ) (place : ℕ) (entry : RowFields) : Type 0 where
  pub label : entry.label ≡ label_at sheet place
  pub priority : entry.priority ≡ priority_at sheet place
  pub c : entry.c.0 ≡ four_bytes sheet (place + 5)
  pub d : entry.d.0 ≡ four_bytes sheet (place + 9)
  pub t : entry.t.0 ≡ four_bytes sheet (place + 13)

-- A row has the times of an entry in ticks of this length.
pub record RowInTicks (tick : ℕ) (entry : RowFields) (row : Row) : Type 0 where
  pub c : InTicks tick entry.c.0 row.c.0
  pub d : InTicks tick entry.d.0 row.d.0
  pub t : InTicks tick entry.t.0 row.t.0

-- Rows are those of entries in ticks of this length: one for each, in their order.
abbrev pub RowsInTicks : (tick : ℕ) → List RowFields → List Row → Type 0
RowsInTicks tick [] [] = Unit {0}
RowsInTicks tick [] (row ∷ rows) = ⊥
RowsInTicks tick (entry ∷ entries) [] = ⊥
RowsInTicks tick (entry ∷ entries) (row ∷ rows) = RowInTicks tick entry row × RowsInTicks tick entries rows

-- The table in rising priority: each entry has a smaller priority number than every one below it.
abbrev pub RisingPriority : List RowFields → Type 0
RisingPriority entries =
    (i j : ℕ) → i < j → j < length entries
    → (get_or entries i blank_entry).priority < (get_or entries j blank_entry).priority

-- What is read of a sheet of this many rows: the board's cores and tick length, and its rows, each once, in
-- rising priority with their labels: the first entries of the answer, as many as it counts, and so its table, whose
-- rows are theirs in the board's ticks.
-- `in_sheet_order` are the entries in the order of the records.
pub record SheetRead (sheet : List ℕ) (n : ℕ) (answer : Sheet) : Type 0 where
  pub in_sheet_order : List RowFields
  pub as_many : length in_sheet_order ≡ n
  pub each_row : (i : ℕ) → i < n → RowRead sheet (behind i) (get_or in_sheet_order i blank_entry)
  pub each_once : Permuted in_sheet_order (entries_of answer)
  pub rising : RisingPriority (entries_of answer)
  pub counted : length (entries_of answer) ≡ n
  pub count : answer.count ≡ n
  pub listed : entries_of answer ≡ take n answer.entries
  pub blank : drop n answer.entries ≡ replicate (32 - n) blank_entry
  pub table : RowsInTicks (tick_of sheet) (entries_of answer) (rows_of (table_of answer))
  pub table_count : (table_of answer).count ≡ n
  pub table_rows : RowsInTicks (tick_of sheet) (entries_of answer) (take n (table_of answer).rows)
  pub cores : answer.cores ≡ cores_of sheet
  pub tick : answer.tick.0 ≡ tick_of sheet

-- A reader of sheets takes each sheet without fault, and answers what stands on it.
abbrev pub SheetsRead : (List ℕ → Outcome) → Type 0
SheetsRead read =
    (sheet : List ℕ) (n : ℕ) → WholeWith sheet n
    → ((read sheet).verdict ≡ Ok tt) × SheetRead sheet n (read sheet).sheet

-- That leaves one answer.
abbrev pub OneReading : Type 0
OneReading =
    (sheet : List ℕ) (n : ℕ) (a b : Sheet) → SheetRead sheet n a → SheetRead sheet n b → a ≡ b
