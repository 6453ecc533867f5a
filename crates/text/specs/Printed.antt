-- The text in a lent buffer: what it holds afterwards, for every buffer.
use Rattle.std.specs.Prelude.{ℕ, ◌+◌, ◌*◌, ◌≤◌, ◌≡◌, true, false, List, ltb, length, take}
use Rattle.quantities.specs.Limits.{row_capacity}
use Rattle.printing.specs.Buffer.{overlaid}
use Rattle.lines.specs.Lines.{line_room}
use Rattle.text.specs.Text.{text_of}

-- room enough for every text: a first line, 32 row lines and a last line
abbrev pub text_room : ℕ
text_room = (row_capacity + 2) * line_room

-- what a lent buffer holds afterwards: the text at its front and what it held behind; one that is too short
-- as it was
unfoldable pub buffer_after : List ℕ → List ℕ → List ℕ
buffer_after text buffer = elim (ltb (length buffer) text_room) [ true ↦ buffer | false ↦ overlaid buffer 0 text ]

-- how many bytes of a lent buffer are the text: none of one that is too short
unfoldable pub count_in : List ℕ → List ℕ → ℕ
count_in text buffer = elim (ltb (length buffer) text_room) [ true ↦ 0 | false ↦ length text ]

-- The text of a sheet was asked for in a lent buffer: what it holds then, and how many of its bytes are the
-- text. These are within it, as whoever lends them on asks; and a buffer with room enough has it for the
-- whole text.
pub record Printed (sheet buffer after : List ℕ) (count : ℕ) : Type 0 where
  pub holds : after ≡ buffer_after (text_of sheet) buffer
  pub counts : count ≡ count_in (text_of sheet) buffer
  pub enough : text_room ≤ length buffer → length (text_of sheet) ≤ text_room
  pub within : count ≤ length after
  pub part : count ≡ length (take count after)
