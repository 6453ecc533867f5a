-- The written-out sheets of document 01, and some that are turned away, each read by the definition.
use Rattle.std.specs.Prelude.{ℕ, zero, suc, ◌≡◌, refl, List, [], ◌∷◌, ◌++◌, replicate, Ok}
use Rattle.quantities.specs.Row.{row_of}
use Rattle.quantities.specs.Table.{rows_of}
use Rattle.records.specs.declared.RowFields.{RowFields}
use Rattle.entries.specs.Entries.{no_entry, table_in, table_of}
use Rattle.sheet.specs.Reader.{refused, whole, read_of}
use Rattle.sheet.specs.Computing.{sheets_compute}

abbrev entry : (priority label c d t : ℕ) → RowFields
entry priority label c d t =
    record {
      label = label;
      priority = priority;
      c = record { 0 = c };
      d = record { 0 = d };
      t = record { 0 = t };
    }

-- the records of the sheet of document 01: 2 cores and a tick of 100 µs, the rows of priority 1, 10 and 2
abbrev board : List ℕ
board = 1 ∷ 2 ∷ 0 ∷ 100 ∷ []

abbrev first : List ℕ
first = 2 ∷ 0 ∷ 101 ∷ 0 ∷ 1 ∷ 0 ∷ 0 ∷ 0 ∷ 200 ∷ 0 ∷ 0 ∷ 1 ∷ 244 ∷ 0 ∷ 0 ∷ 1 ∷ 244 ∷ []

abbrev tenth : List ℕ
tenth = 2 ∷ 0 ∷ 110 ∷ 0 ∷ 10 ∷ 0 ∷ 0 ∷ 0 ∷ 200 ∷ 0 ∷ 0 ∷ 1 ∷ 144 ∷ 0 ∷ 0 ∷ 3 ∷ 232 ∷ []

abbrev second : List ℕ
second = 2 ∷ 0 ∷ 102 ∷ 0 ∷ 2 ∷ 0 ∷ 0 ∷ 1 ∷ 44 ∷ 0 ∷ 0 ∷ 3 ∷ 32 ∷ 0 ∷ 0 ∷ 3 ∷ 32 ∷ []

abbrev document_sheet : List ℕ
document_sheet = board ++ first ++ tenth ++ second ++ (3 ∷ 3 ∷ [])

-- the sheet of document 01: 2 comes before 10
sheet_of_document_lem : read_of document_sheet ≡
    whole
    (record {
      cores = 2;
      tick = record { 0 = 100 };
      count = 3;
      entries =
          entry 1 101 200 500 500
          ∷ entry 2 102 300 800 800
          ∷ entry 10 110 200 400 1000
          ∷ replicate 29 no_entry;
    })
unfolding sheets_compute
sheet_of_document_lem = refl

-- its table: the times in ticks of 100 µs, and in those of another board
rows_of_document : rows_of (table_of (read_of document_sheet).sheet) ≡ row_of 2 5 5 ∷ row_of 3 8 8 ∷ row_of 2 4 10 ∷ []
unfolding sheets_compute
rows_of_document = refl

rows_in_other_ticks : rows_of (table_in (read_of document_sheet).sheet (record { 0 = 150 }))
    ≡ row_of 1 3 3 ∷ row_of 2 5 5 ∷ row_of 1 2 6 ∷ []
unfolding sheets_compute
rows_in_other_ticks = refl

-- no byte; an end record first; a kind that no record has, whatever follows it
empty_sheet : read_of [] ≡ refused 11 0
unfolding sheets_compute
empty_sheet = refl

end_first : read_of (3 ∷ 0 ∷ []) ≡ refused 13 0
unfolding sheets_compute
end_first = refl

kind_seven : (rest : List ℕ) → read_of (7 ∷ rest) ≡ refused 12 0
unfolding sheets_compute
kind_seven rest = refl

-- a row record first, misplaced before it is cut short; a second board; a later row record that is cut short;
-- no end record
cut_row_first : read_of (2 ∷ 0 ∷ []) ≡ refused 13 0
unfolding sheets_compute
cut_row_first = refl

second_board : read_of (board ++ first ++ board) ≡ refused 13 21
unfolding sheets_compute
second_board = refl

cut_row : read_of (board ++ first ++ (2 ∷ 0 ∷ [])) ≡ refused 11 21
unfolding sheets_compute
cut_row = refl

no_end : read_of (board ++ first) ≡ refused 11 21
unfolding sheets_compute
no_end = refl

-- a priority twice; a tick of 0 µs; a wrong count; a byte after the end record
priority_twice : read_of (board ++ second ++ tenth ++ second ++ (3 ∷ 3 ∷ [])) ≡ refused 15 38
unfolding sheets_compute
priority_twice = refl

no_tick : read_of (1 ∷ 2 ∷ 0 ∷ 0 ∷ first) ≡ refused 19 0
unfolding sheets_compute
no_tick = refl

wrong_count : read_of (board ++ first ++ (3 ∷ 2 ∷ 3 ∷ [])) ≡ refused 17 21
unfolding sheets_compute
wrong_count = refl

byte_after : read_of (board ++ first ++ (3 ∷ 1 ∷ 3 ∷ [])) ≡ refused 18 23
unfolding sheets_compute
byte_after = refl

-- a row record with a priority of these two bytes, the label 7 and times of 0 µs
abbrev row_with : ℕ → ℕ → List ℕ
row_with high low = 2 ∷ 0 ∷ 7 ∷ high ∷ low ∷ replicate 12 0

-- a priority of 0, and one of 1000
no_priority : read_of (board ++ row_with 0 0) ≡ refused 16 4
unfolding sheets_compute
no_priority = refl

priority_1000 : read_of (board ++ row_with 0 1 ++ row_with 3 232) ≡ refused 16 21
unfolding sheets_compute
priority_1000 = refl

-- this many rows, with the priorities from that number down to 1
abbrev rows_down : ℕ → List ℕ
rows_down zero = []
rows_down (suc n) = row_with 0 (suc n) ++ rows_down n

-- 32 rows are read, though they share a label and their times; a 33rd is one too many
rows_32 : (read_of (board ++ rows_down 32 ++ (3 ∷ 32 ∷ []))).verdict ≡ Ok tt
unfolding sheets_compute
rows_32 = refl

rows_33 : read_of (board ++ rows_down 33 ++ (3 ∷ 33 ∷ [])) ≡ refused 14 548
unfolding sheets_compute
rows_33 = refl

-- a 33rd row is one too many before its priority is looked at
empty_box_33 : read_of (board ++ rows_down 32 ++ row_with 0 0) ≡ refused 14 548
unfolding sheets_compute
empty_box_33 = refl
