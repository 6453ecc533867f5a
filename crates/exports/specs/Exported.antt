-- What the exported function takes and answers: rows as triples of numbers, and number and place as one number.
use Rattle.std.specs.Prelude.{ℕ, ◌+◌, ◌*◌, ◌<◌, ◌≡◌, List, map, get_or}
use Rattle.quantities.specs.Row.{row_of}
use Rattle.quantities.specs.declared.Row.{Row}
use Rattle.quantities.specs.Paper.{Paper}
use Rattle.windows.specs.Answer.{Judged, answer_paper, bounds_after}
use Rattle.windows.specs.declared.Answer.{Answer}

-- the row of a triple C, D, T, and the rows of a list of triples
abbrev pub row_from : List ℕ → Row
row_from triple = row_of (get_or triple 0 0) (get_or triple 1 0) (get_or triple 2 0)

abbrev pub rows_from : List (List ℕ) → List Row
rows_from = map row_from

-- 2 to the power 32: one more than the largest place that a code has room for
abbrev pub place_limit : ℕ
place_limit = 4294967296

-- a number and a place as one number
abbrev pub coded : (number place : ℕ) → ℕ
coded number place = number * place_limit + place

abbrev pub code_of : Paper → ℕ
code_of paper = coded paper.number paper.place

-- An answer whose number and place can be read off its code.
abbrev pub FitsCode : Answer → Type 0
FitsCode answer = (answer_paper answer).place < place_limit

-- The answer is the code of what is judged, and the list is left with the bounds that come with it.
pub record Exported (judged : Judged) (before after : List ℕ) (answer : ℕ) : Type 0 where
  pub answers : answer ≡ code_of (answer_paper judged.answer)
  pub leaves : after ≡ bounds_after judged before
