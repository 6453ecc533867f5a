-- The whole way, from the bytes of a sheet to its text: the rows that are read are judged and printed.
use Rattle.std.specs.Prelude.{ℕ, zero, suc, ◌+◌, ◌*◌, ◌≤◌, ◌<◌, ◌≡◌, List, [], ◌∷◌, ◌++◌, length, get_or, take, drop}
use Rattle.quantities.specs.Paper.{Paper}
use Rattle.quantities.specs.Row.{row_of}
use Rattle.quantities.specs.Table.{rows_of}
use Rattle.quantities.specs.declared.Row.{Row}
use Rattle.laws.specs.Checks.{FirstFailing}
use Rattle.windows.specs.declared.Answer.TheVariants.{Shown, NotShown}
use Rattle.records.specs.declared.RowFields.{RowFields}
use Rattle.entries.specs.declared.Sheet.{Sheet}
use Rattle.entries.specs.Entries.{entries_of, table_of}
use Rattle.printing.specs.Words.{ascii}
use Rattle.printing.specs.Decimal.{decimal}
use Rattle.text.specs.Printed.{Printed}
use Rattle.text.specs.Text.{text_of}
use Rattle.rowpages.specs.Lists.{list_order, ListInRange}
use Rattle.sheetpages.specs.Sheets.{blank_entry, cores_of, tick_of, WholeWith, FirstFault, SheetRead}
use Rattle.rowpages.specs.Windows.{JudgedBy}

-- A number is printed in decimal: a digit below ten, or the digits of its tenth, which is not 0, and then the
-- last one.
pub data Digits : ℕ → List ℕ → Type 0 where
  one : (digit : ℕ) → digit < 10 → Digits digit ((48 + digit) ∷ [])
  more : (tenth digit : ℕ) (bytes : List ℕ) → 0 < tenth → digit < 10 → Digits tenth bytes
      → Digits (tenth * 10 + digit) (bytes ++ ((48 + digit) ∷ []))

abbrev pub InDecimal : Type 0
InDecimal = (n : ℕ) → Digits n (decimal n)

-- Words are printed as their letters' bytes.
pub record WordsInBytes : Type 0 where
  pub line_end : ascii "\n" ≡ 10 ∷ []
  pub space : ascii " " ≡ 32 ∷ []
  pub cores : ascii "cores " ≡ 99 ∷ 111 ∷ 114 ∷ 101 ∷ 115 ∷ 32 ∷ []
  pub tick : ascii " tick " ≡ 32 ∷ 116 ∷ 105 ∷ 99 ∷ 107 ∷ 32 ∷ []
  pub rows : ascii " rows " ≡ 32 ∷ 114 ∷ 111 ∷ 119 ∷ 115 ∷ 32 ∷ []
  pub all_shown : ascii "all shown\n" ≡ 97 ∷ 108 ∷ 108 ∷ 32 ∷ 115 ∷ 104 ∷ 111 ∷ 119 ∷ 110 ∷ 10 ∷ []
  pub not_shown_holds : ascii "not shown " ≡ 110 ∷ 111 ∷ 116 ∷ 32 ∷ 115 ∷ 104 ∷ 111 ∷ 119 ∷ 110 ∷ 32 ∷ []
  pub refused : ascii "refused " ≡ 114 ∷ 101 ∷ 102 ∷ 117 ∷ 115 ∷ 101 ∷ 100 ∷ 32 ∷ []

-- First line: cores, tick length in µs, number of rows. Row lines: place, label, bound, D.
abbrev pub first_text : (cores tick rows : ℕ) → List ℕ
first_text cores tick rows =
    ascii "cores " ++ decimal cores ++ ascii " tick " ++ decimal tick ++ ascii " rows " ++ decimal rows ++ ascii "\n"

abbrev pub row_text : (place label bound d : ℕ) → List ℕ
row_text place label bound d =
    decimal place ++ ascii " " ++ decimal label ++ ascii " " ++ decimal bound ++ ascii " " ++ decimal d ++ ascii "\n"

-- the lines of the first entries, this many, with their rows in ticks and their bounds; the row with index k stands at
-- place k + 1
abbrev pub row_texts : List RowFields → List Row → List ℕ → ℕ → List ℕ
row_texts entries rows bounds zero = []
row_texts entries rows bounds (suc k) =
    row_texts entries rows bounds k
    ++ row_text (suc k) (get_or entries k blank_entry).label (get_or bounds k 0) (get_or rows k (row_of 0 0 0)).d.0

abbrev pub not_shown_text : (place label : ℕ) → List ℕ
not_shown_text place label = ascii "not shown " ++ decimal place ++ ascii " " ++ decimal label ++ ascii "\n"

-- For every other number: only `refused NUMBER PLACE`.
abbrev pub refused_text : (number place : ℕ) → List ℕ
refused_text number place = ascii "refused " ++ decimal number ++ ascii " " ++ decimal place ++ ascii "\n"

-- The text for entries, and their rows in ticks, on a board with this many cores and this tick length is that of the
-- judgement of these rows: each line has the label and D of the row whose bound stands there.
pub data TextOf (cores tick : ℕ) (entries : List RowFields) (rows : List Row) (text : List ℕ) : Type 0 where
  turned_away : (first : Paper) → FirstFailing (list_order cores rows) first
      → text ≡ refused_text first.number first.place
      → TextOf cores tick entries rows text
  all_shown : (bounds : List ℕ) → ListInRange cores rows
      → JudgedBy cores rows (record { answer = Shown; bounds = bounds })
      → text
      ≡ first_text cores tick (length entries) ++ row_texts entries rows bounds (length entries)
      ++ ascii "all shown\n"
      → TextOf cores tick entries rows text
  not_shown_holds : (before : ℕ) (bounds : List ℕ) → ListInRange cores rows
      → JudgedBy cores rows (record { answer = NotShown 8 (suc before); bounds = bounds })
      → text
      ≡ first_text cores tick (length entries) ++ row_texts entries rows bounds before
      ++ not_shown_text (suc before) (get_or entries before blank_entry).label
      → TextOf cores tick entries rows text

-- The whole way of a sheet with n rows without fault: the rows of its records in rising priority number, and
-- the text of the judgement of these rows, on the sheet's own cores.
pub record WholeWay (sheet : List ℕ) (n : ℕ) (text : List ℕ) : Type 0 where
  pub found : Sheet
  pub reads : SheetRead sheet n found
  pub prints : TextOf (cores_of sheet) (tick_of sheet) (entries_of found) (rows_of (table_of found)) text

-- A tool that prints a text for the bytes of a sheet goes the whole way; a sheet with a fault is answered by
-- its first one.
pub record GoesTheWholeWay (tool : List ℕ → List ℕ) : Type 0 where
  pub whole : (sheet : List ℕ) (n : ℕ) → WholeWith sheet n → WholeWay sheet n (tool sheet)
  pub faulty : (sheet : List ℕ) (first : Paper) → FirstFault sheet first
      → tool sheet ≡ refused_text first.number first.place

-- No tool that does prints another text than ours, for any sheet.
abbrev pub OneText : Type 0
OneText = (tool : List ℕ → List ℕ) → GoesTheWholeWay tool → (sheet : List ℕ) → tool sheet ≡ text_of sheet

-- `print_answer` lays this text at the front of a lent buffer and leaves every later byte; a buffer with less
-- than 2,856 bytes is left as it was, and none of its bytes is the text.
abbrev pub TextInFront : Type 0
TextInFront =
    (sheet buffer after : List ℕ) (count : ℕ) → Printed sheet buffer after count
    → (2856 ≤ length buffer → (take count after ≡ text_of sheet) × (drop count after ≡ drop count buffer))
    × (2856 ≤ length buffer → (count ≡ length (text_of sheet)) × (length (text_of sheet) ≤ 2856))
    × (length buffer < 2856 → (after ≡ buffer) × (count ≡ 0))

-- The sheet of document 01, and its output.
abbrev pub sheet_of_document : List ℕ
sheet_of_document =
    (1 ∷ 2 ∷ 0 ∷ 100 ∷ [])
    ++ (2 ∷ 0 ∷ 101 ∷ 0 ∷ 1 ∷ 0 ∷ 0 ∷ 0 ∷ 200 ∷ 0 ∷ 0 ∷ 1 ∷ 244 ∷ 0 ∷ 0 ∷ 1 ∷ 244 ∷ [])
    ++ (2 ∷ 0 ∷ 110 ∷ 0 ∷ 10 ∷ 0 ∷ 0 ∷ 0 ∷ 200 ∷ 0 ∷ 0 ∷ 1 ∷ 144 ∷ 0 ∷ 0 ∷ 3 ∷ 232 ∷ [])
    ++ (2 ∷ 0 ∷ 102 ∷ 0 ∷ 2 ∷ 0 ∷ 0 ∷ 1 ∷ 44 ∷ 0 ∷ 0 ∷ 3 ∷ 32 ∷ 0 ∷ 0 ∷ 3 ∷ 32 ∷ [])
    ++ (3 ∷ 3 ∷ [])

abbrev pub OutputOfDocument : Type 0
OutputOfDocument =
    text_of sheet_of_document
    ≡ ascii "cores 2 tick 100 rows 3\n1 101 2 5\n2 102 3 8\n3 110 4 4\nall shown\n"

-- The program reads at most 1,024 bytes: what follows makes no difference.
abbrev pub First1024 : Type 0
First1024 = (sheet : List ℕ) → text_of (take 1024 sheet) ≡ text_of sheet
