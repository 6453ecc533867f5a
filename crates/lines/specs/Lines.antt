-- The lines of document 01, "One sheet through the program", each with its line end.
use Rattle.std.specs.Prelude.{ℕ, zero, suc, List, [], ◌++◌, get_or}
use Prim.Native.String.{String}
use Rattle.quantities.specs.Row.{deadline}
use Rattle.quantities.specs.declared.Micros.{Micros}
use Rattle.records.specs.declared.RowFields.{RowFields}
use Rattle.entries.specs.Entries.{row_in, no_entry}
use Rattle.lines.specs.declared.Line.{Line}
use Rattle.lines.specs.declared.Line.TheVariants.{First, Row, Shown, NotShown, Refused}
use Rattle.printing.specs.Words.{ascii}
use Rattle.printing.specs.Decimal.{decimal}

-- a word, and a number in decimal after it
abbrev pub worded : String → ℕ → List ℕ
worded word n = ascii word ++ decimal n

-- the first line: cores, tick length in µs, number of rows
unfoldable pub first_line : (cores tick rows : ℕ) → List ℕ
first_line cores tick rows = worded "cores " cores ++ worded " tick " tick ++ worded " rows " rows ++ ascii "\n"

-- a row line: place, label, bound, D
unfoldable pub row_line : (place label bound d : ℕ) → List ℕ
row_line place label bound d = decimal place ++ worded " " label ++ worded " " bound ++ worded " " d ++ ascii "\n"

-- the lines of the first rows, this many, in ticks of a length, with their bounds; the row with index k stands at place
-- k + 1
unfoldable pub row_lines : Micros → List RowFields → List ℕ → ℕ → List ℕ
row_lines tick entries bounds zero = []
row_lines tick entries bounds (suc k) = row_lines tick entries bounds k
    ++ row_line (suc k) (get_or entries k no_entry).label (get_or bounds k 0)
    (deadline (row_in tick (get_or entries k no_entry)))

-- every row has its bound
unfoldable pub shown_line : List ℕ
shown_line = ascii "all shown\n"

-- the row at a place, with its label, has none
unfoldable pub not_shown_line : (place label : ℕ) → List ℕ
not_shown_line place label = worded "not shown " place ++ worded " " label ++ ascii "\n"

-- a sheet or a list that is turned away
unfoldable pub refused_line : (number place : ℕ) → List ℕ
refused_line number place = worded "refused " number ++ worded " " place ++ ascii "\n"

-- the text of a line
unfoldable pub line_text : Line → List ℕ
line_text (First cores tick rows) = first_line cores tick.0 rows
line_text (Row place label bound d) = row_line place label bound.0 d.0
line_text Shown = shown_line
line_text (NotShown place label) = not_shown_line place label
line_text (Refused number place) = refused_line number place

-- no line is longer: four numbers, each with a space or the line end
abbrev pub line_room : ℕ
line_room = 84
