-- dipperslate_analyse tells of its own rows what answer_for tells of the table that they make.
use Prim.Native.Nat.{ℕ}
use native.Mathlib.Omega.{arith}
use mathlib.Core.Path.{◌≡◌, ap, ◌∙◌}
use mathlib.Core.List.{List}
use lib.ListN.{length}
use Rattle.quantities.specs.Table.{rows_of}
use Rattle.quantities.specs.Lengths.{numbers}
use Rattle.quantities.specs.declared.Row.{Row}
use Rattle.quantities.specs.declared.Table.{Table}
use Rattle.quantities.proofs.Rows.{length_rows}
use Rattle.windows.specs.Answer.{Judged, judged_into, answer_paper}
use Rattle.windows.specs.declared.Answer.{Answer}
use Rattle.lentrows.specs.Loaded.{loaded_table}
use Rattle.lentrows.specs.Lent.{front_replaced, told_of}
use Rattle.lentrows.specs.declared.Told.{Told}
use Rattle.exports.specs.Exported.{rows_from, code_of, FitsCode, Exported}
use Rattle.lentrows.proofs.Loaded.{into_loaded}
use Rattle.lentrows.proofs.Written.{told_fits, told_written}
use Rattle.exports.proofs.Places.{into_place, loaded_count}
use Rattle.exports.proofs.dipperslate_analyse.Goals as goal

module _ (cores entries : ℕ) (rows : List Row) (table : Table) (loads : table ≡ loaded_table rows) where
  -- the table's answer is the rows' answer
  same : judged_into cores entries (rows_of table) ≡ judged_into cores entries rows
  same = ap (λ (t : Table). judged_into cores entries (rows_of t)) loads ∙ into_loaded rows cores entries

  answer_fits : (answer : Answer) → answer ≡ (judged_into cores entries (rows_of table)).answer → FitsCode answer
  answer_fits answer is =
      rw (is, loads)
      (omega (arith, into_place cores entries (rows_of (loaded_table rows)), length_rows (loaded_table rows), loaded_count (length rows) rows))

  exported : (told : Told) → told ≡ told_of (judged_into cores entries (rows_of table))
      → (before after : List ℕ) → after ≡ front_replaced told.shown (numbers told.bounds) before
      → (r : ℕ) → r ≡ code_of (answer_paper told.answer)
      → Exported (judged_into cores entries rows) before after r
  unfolding told_of
  exported told tells before after leaves r is =
      let of_rows = tells ∙ ap told_of same in
      record {
        answers = is ∙ ap (λ (t : Told). code_of (answer_paper t.answer)) of_rows;
        leaves = leaves ∙ told_written (judged_into cores entries rows) told of_rows before;
      }

-- the answer told is the one judged
told_answer : (j : Judged) (told : Told) → told ≡ told_of j → told.answer ≡ j.answer
unfolding told_of
told_answer j told e = ap (λ (t : Told). t.answer) e

pub write_bounds-requires : goal.write_bounds-requires
write_bounds-requires c =
    let load = c.load-table in
    let told = c.answer_for-told in
    told_fits c.args.cores (length c.args.bounds.now) (rows_of load.result) told.result told.ensures

pub code_of-requires : goal.code_of-requires
code_of-requires c =
    let told = c.answer_for-told in
    let load = c.load-table in
    answer_fits c.args.cores (length c.args.bounds.now) (rows_from c.args.rows.now) _ load.ensures
    _ (told_answer _ _ told.ensures)

pub returns : goal.returns
returns c =
    let wrote = c.write_bounds in
    let told = c.answer_for-told in
    let load = c.load-table in
    exported c.args.cores (length c.args.bounds.now) (rows_from c.args.rows.now) _ load.ensures
    _ told.ensures _ _ wrote.ensures _ c.code_of.ensures
