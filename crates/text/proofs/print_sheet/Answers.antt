-- print_sheet prints the text of a sheet, by the cases of its answer.
use Rattle.std.proofs.Common.{arith}
use Rattle.lines.specs.Lines.{line_text}
use Rattle.text.proofs.Text.{count_shown, text_shown, before_not_shown, text_not_shown, text_refused}
use Rattle.text.proofs.print_sheet.Goals as goal

pub print_bounds-requires-clause-few : goal.print_bounds-requires-clause-few
print_bounds-requires-clause-few c = count_shown _ _ _ c.table-table.ensures c.analyse-answer.ensures c.in-Shown.is

pub overflow_sub-before : goal.overflow_sub-before
overflow_sub-before c =
    let before = before_not_shown _ _ _ c.table-table.ensures c.analyse-answer.ensures c.in-NotShown.is in omega arith

pub offset_bounds-sheet-before : goal.offset_bounds-sheet-before
offset_bounds-sheet-before c =
    let before = before_not_shown _ _ _ c.table-table.ensures c.analyse-answer.ensures c.in-NotShown.is in omega arith

pub bounds-sheet-before : goal.bounds-sheet-before
bounds-sheet-before c =
    let before = before_not_shown _ _ _ c.table-table.ensures c.analyse-answer.ensures c.in-NotShown.is in omega arith

pub print_bounds-requires-in-NotShown-clause-few : goal.print_bounds-requires-in-NotShown-clause-few
print_bounds-requires-in-NotShown-clause-few c =
    let before = before_not_shown _ _ _ c.table-table.ensures c.analyse-answer.ensures c.in-NotShown.is in omega arith

pub returns-in-Shown-clause-printed : goal.returns-in-Shown-clause-printed
unfolding line_text
returns-in-Shown-clause-printed c =
    rw (text_shown _ _ _ c.table-table.ensures c.analyse-answer.ensures c.in-Shown.is) c.print_bounds.ensures.printed

pub returns-in-NotShown-clause-printed : goal.returns-in-NotShown-clause-printed
unfolding line_text
returns-in-NotShown-clause-printed c =
    rw (text_not_shown _ _ _ c.table-table.ensures c.analyse-answer.ensures c.in-NotShown.is) c.print_bounds-in-NotShown.ensures.printed

pub returns-in-Refused-clause-printed : goal.returns-in-Refused-clause-printed
returns-in-Refused-clause-printed c =
    rw (text_refused _ _ _ c.table-table.ensures c.analyse-answer.ensures c.in-Refused.is, ← c.fault_line.ensures) (rw c.requires.blank at c.print.ensures.printed)
