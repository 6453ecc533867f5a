-- load answers the table of its triples: each row is put below those before it.
use Rattle.std.proofs.Common.{◌≡◌}
use Rattle.lentrows.specs.Loaded.{loaded}
use Rattle.exports.specs.Exported.{rows_from}
use Rattle.exports.proofs.load.Given as goal

abbrev pub invariant-loop-triple : goal.invariant-loop-triple
invariant-loop-triple l = l.table ≡ loaded l.triple-index (rows_from l.rows)
