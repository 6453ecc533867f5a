-- analyse_list answers what answer_for tells of the table that the list makes, and writes the bounds told.
use Rattle.std.proofs.Common.{◌≡◌, length, ap, ◌∙◌}
use Rattle.quantities.specs.Table.{rows_of}
use Rattle.quantities.specs.declared.Table.{Table}
use Rattle.windows.specs.Answer.{judged_into}
use Rattle.lentrows.specs.Lent.{told_of}
use Rattle.lentrows.proofs.Loaded.{into_loaded}
use Rattle.lentrows.proofs.Written.{told_fits, lent_analysis}
use Rattle.lentrows.proofs.analyse_list.Goals as goal

pub write_bounds-requires : goal.write_bounds-requires
write_bounds-requires c =
    told_fits c.args.cores (length c.args.bounds.now) (rows_of c.load-table.result) c.answer_for-told.result
    c.answer_for-told.ensures

pub returns : goal.returns
returns c =
    let rows = c.args.rows.now in
    let entries = length c.args.bounds.now in
    let told = c.answer_for-told.result in
    let of_list : told ≡ told_of (judged_into c.args.cores entries rows) =
    c.answer_for-told.ensures
    ∙ ap told_of
    (ap (λ (t : Table). judged_into c.args.cores entries (rows_of t)) c.load-table.ensures
    ∙ into_loaded rows c.args.cores entries) in
    lent_analysis (judged_into c.args.cores entries rows) told of_list c.args.bounds.now c.write_bounds.new.bounds
    c.write_bounds.ensures
