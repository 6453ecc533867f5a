-- rows_broken answers whether some row's state breaks the record.
use Rattle.std.proofs.Common.{rules, tests, ◌∙◌, arith, take}
use Rattle.std.proofs.lemmas.Iterator.{YieldsList-from_slice, YieldsList-from_zip}
use Rattle.std.proofs.lemmas.Iterator.Search.{any_from_yields_List}
use Rattle.quantities.proofs.Rows.{rows_kept}
use Rattle.bench.specs.State.{row_broken}
use Rattle.bench.proofs.State.{rows_broken_any}
use Rattle.bench.proofs.checks.rows_broken.Goals as goal

pub returns : goal.returns
returns c =
    let b = c.args.b in
    let kept = take b.table.count b.table.rows in
    rw (rows_kept b.table (omega arith))
    (any_from_yields_List (λ at. row_broken b.now.0 at.0 at.1) c.any.new.self _ _ c.any.ensures.ran
    (YieldsList-from_zip (YieldsList-from_slice kept cc) (YieldsList-from_slice b.states cc)) (λ x b q k. search (rules, tests))
    ∙ rows_broken_any b.now.0 kept b.states)
