-- print_rows prints row lines one behind the other: those of the rows so far stand behind what the page held.
use Rattle.std.proofs.Common.{◌≡◌, ◌*◌, ◌≤◌, ◌++◌, length}
use Rattle.lines.specs.Lines.{row_lines, line_room}
use Rattle.quantities.specs.Lengths.{numbers}
use Rattle.lines.proofs.print_rows.Given as goal

abbrev pub invariant-loop-i : goal.invariant-loop-i
invariant-loop-i g l =
    (l.page ≡ l.initial.page ++ row_lines l.sheet.tick l.sheet.entries (numbers l.bounds) l.i) ×
    (length (row_lines l.sheet.tick l.sheet.entries (numbers l.bounds) l.i) ≤ l.i * line_room)
