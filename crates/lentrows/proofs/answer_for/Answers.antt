-- answer_for tells what the rules say of the table's rows where the bounds list has this many entries.
use Prim.Native.Nat.{ℕ, ◌≤◌, ◌<◌}
use native.Mathlib.Omega.{arith}
use mathlib.Core.Path.{◌≡◌, sym, ap, ◌∙◌}
use mathlib.Core.List.{List}
use mathlib.Core.Option.{none}
use lib.ListN.{length}
use Rattle.quantities.specs.Table.{rows_of}
use Rattle.quantities.specs.Checks.{list_fault}
use Rattle.quantities.specs.declared.Row.{Row}
use Rattle.quantities.proofs.Checks.{checked_ok, checked_err}
use Rattle.quantities.proofs.Sound.{sound_list_means}
use Rattle.quantities.proofs.Rows.{length_rows}
use Rattle.windows.specs.Answer.{judged, judged_into}
use Rattle.windows.proofs.Into.{into_faulty, into_short, into_room}
use Rattle.analysis.specs.Analysis.{analysis_of}
use Rattle.analysis.specs.declared.Analysis.{Analysis}
use Rattle.lentrows.specs.Lent.{shown_by, told_of}
use Rattle.lentrows.specs.declared.Told.{Told}
use Rattle.lentrows.proofs.Counted.{shown_count}
use Rattle.lentrows.proofs.answer_for.Goals as goal

-- A sound list with room for its bounds: the engine's answer and bounds, and as many of these as the answer says.
told : (M entries : ℕ) (rows : List Row) → list_fault M rows ≡ none → length rows ≤ entries → (a : Analysis)
    → a ≡ analysis_of (judged M rows) → (n : ℕ) → n ≡ shown_by a.answer (length rows)
    → ◌≡◌ {A = Told} (record { answer = a.answer; bounds = a.bounds; shown = n }) (told_of (judged_into M entries rows))
unfolding told_of analysis_of
told M entries rows sound room a engine n count =
    let as_many =
    count
    ∙ ap (λ (z : Analysis). shown_by z.answer (length rows)) engine
    ∙ shown_count M rows ((sound_list_means M rows).0 sound) in
    rw (into_room M entries rows sound room, as_many)
    (ap (λ (z : Analysis). record { answer = z.answer; bounds = z.bounds; shown = length (judged M rows).bounds }) engine)

pub returns-in-Err : goal.returns-in-Err
returns-in-Err c =
    let fault = c.in-Err.fault in
    c.refused.ensures
    ∙ ap told_of
    (sym
    (into_faulty c.args.cores c.args.entries (rows_of c.args.table) fault
    (checked_err _ fault (sym c.check.ensures ∙ c.in-Err.is))))

pub returns-then-entries-table : goal.returns-then-entries-table
returns-then-entries-table c =
    let rows = rows_of c.args.table in
    let short : c.args.entries < length rows = omega (arith, c.if-entries-table.true, length_rows c.args.table) in
    c.refused-then-entries-table.ensures
    ∙ ap told_of
    (sym
    (into_short c.args.cores c.args.entries rows
    (checked_ok _ (sym c.check.ensures ∙ c.in_default.is))
    short))

pub returns : goal.returns
returns c =
    let rows = rows_of c.args.table in
    let found = c.analyse-answer.result in
    let sound = checked_ok (list_fault c.args.cores rows) (sym c.check.ensures ∙ c.in_default.is) in
    let count = c.shown_by-shown.ensures ∙ ap (shown_by found.answer) (sym (length_rows c.args.table)) in
    let roomy : length rows ≤ c.args.entries = omega (arith, c.if-entries-table.false, length_rows c.args.table) in
    told c.args.cores c.args.entries rows sound roomy found c.analyse-answer.ensures c.shown_by-shown.result count
