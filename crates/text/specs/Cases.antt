-- The sheet of document 01 and its text, and other sheets with theirs, computed by the definitions.
use Rattle.std.specs.Prelude.{ℕ, ◌≡◌, refl, List, [], ◌∷◌, ◌++◌}
use Rattle.windows.specs.Computing.{answers_compute}
use Rattle.sheet.specs.Computing.{sheets_compute}
use Rattle.printing.specs.Words.{ascii}
use Rattle.printing.specs.Decimal.{digits_in, decimal}
use Rattle.lines.specs.Lines.{first_line, row_line, row_lines, shown_line, not_shown_line, refused_line}
use Rattle.text.specs.Text.{bound_lines, judged_text, sheet_text, outcome_text, text_of}

-- the text of a sheet, with all that it rests on opened so that it computes
unfoldable text : List ℕ → List ℕ
unfolding answers_compute sheets_compute text_of outcome_text sheet_text judged_text bound_lines first_line row_line
    row_lines shown_line not_shown_line refused_line decimal digits_in
text sheet = text_of sheet

abbrev board : List ℕ
board = 1 ∷ 2 ∷ 0 ∷ 100 ∷ []

abbrev first : List ℕ
first = 2 ∷ 0 ∷ 101 ∷ 0 ∷ 1 ∷ 0 ∷ 0 ∷ 0 ∷ 200 ∷ 0 ∷ 0 ∷ 1 ∷ 244 ∷ 0 ∷ 0 ∷ 1 ∷ 244 ∷ []

-- the row of priority 10, with this low byte of D
abbrev tenth : ℕ → List ℕ
tenth d = 2 ∷ 0 ∷ 110 ∷ 0 ∷ 10 ∷ 0 ∷ 0 ∷ 0 ∷ 200 ∷ 0 ∷ 0 ∷ 1 ∷ d ∷ 0 ∷ 0 ∷ 3 ∷ 232 ∷ []

abbrev second : List ℕ
second = 2 ∷ 0 ∷ 102 ∷ 0 ∷ 2 ∷ 0 ∷ 0 ∷ 1 ∷ 44 ∷ 0 ∷ 0 ∷ 3 ∷ 32 ∷ 0 ∷ 0 ∷ 3 ∷ 32 ∷ []

pub sheet_of_document_lem : text_of (board ++ first ++ tenth 144 ++ second ++ (3 ∷ 3 ∷ [])) ≡
    ascii "cores 2 tick 100 rows 3\n1 101 2 5\n2 102 3 8\n3 110 4 4\nall shown\n"
unfolding text
sheet_of_document_lem = refl

-- D is 399 µs, 3 ticks
pub third_not_shown : text_of (board ++ first ++ tenth 143 ++ second ++ (3 ∷ 3 ∷ [])) ≡
    ascii "cores 2 tick 100 rows 3\n1 101 2 5\n2 102 3 8\nnot shown 3 110\n"
unfolding text
third_not_shown = refl

pub empty_sheet : text_of [] ≡ ascii "refused 11 0\n"
unfolding text
empty_sheet = refl

pub no_rows : text_of (board ++ (3 ∷ 0 ∷ [])) ≡ ascii "refused 1 0\n"
unfolding text
no_rows = refl
