-- The text that the program prints for a sheet: its answer by the definitions, in the lines of document 01.
use Rattle.std.specs.Prelude.{ℕ, ◌-◌, List, ◌++◌, length, get_or, Ok, Err}
use Rattle.quantities.specs.Table.{rows_of}
use Rattle.quantities.specs.declared.Row.{Row}
use Rattle.quantities.specs.Paper.{Paper, fault_paper}
use Rattle.windows.specs.Answer.{Judged, judged}
use Rattle.windows.specs.declared.Answer.TheVariants.{Shown, NotShown, Refused}
use Rattle.entries.specs.Entries.{no_entry, table_of}
use Rattle.sheet.specs.Reader.{read_of}
use Rattle.entries.specs.declared.Sheet.{Sheet}
use Rattle.sheet.specs.declared.Outcome.{Outcome}
use Rattle.lines.specs.Lines.{first_line, row_lines, shown_line, not_shown_line, refused_line}

-- the first line of a sheet with this many rows, and the lines of the first k of them
abbrev pub lines_up_to : Sheet → ℕ → List ℕ → ℕ → List ℕ
lines_up_to sheet rows bounds k =
    first_line sheet.cores sheet.tick.0 rows
    ++ row_lines sheet.tick sheet.entries bounds k

-- the first line, and the lines of the rows that have a bound
unfoldable pub bound_lines : Sheet → List Row → List ℕ → List ℕ
bound_lines sheet rows bounds = lines_up_to sheet (length rows) bounds (length bounds)

-- the label of the row with index k
abbrev pub label_at : Sheet → ℕ → ℕ
label_at sheet k = (get_or sheet.entries k no_entry).label

-- the line of a number and a place
abbrev pub paper_line : Paper → List ℕ
paper_line paper = refused_line paper.number paper.place

-- the text for a sheet with these rows when this is their answer
unfoldable pub judged_text : Sheet → List Row → Judged → List ℕ
judged_text sheet rows j =
    elim j.answer [
      | Shown ↦ bound_lines sheet rows j.bounds ++ shown_line
      | NotShown number place ↦ bound_lines sheet rows j.bounds ++ not_shown_line place (label_at sheet (place - 1))
      | Refused fault ↦ paper_line (fault_paper fault)
    ]

-- the text for a sheet that was read without fault
unfoldable pub sheet_text : Sheet → List ℕ
sheet_text sheet = judged_text sheet (rows_of (table_of sheet)) (judged sheet.cores (rows_of (table_of sheet)))

-- the text for what the reader answers
unfoldable pub outcome_text : Outcome → List ℕ
outcome_text outcome =
    elim outcome.verdict [
      | Err fault ↦ refused_line fault.number fault.place
      | Ok _ ↦ sheet_text outcome.sheet
    ]

-- the text that the program prints for the bytes of a sheet
unfoldable pub text_of : List ℕ → List ℕ
text_of bytes = outcome_text (read_of bytes)
