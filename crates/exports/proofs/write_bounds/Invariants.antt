-- write_bounds leaves the bounds told, as numbers, in the first entries, and every later entry as it was.
use Rattle.std.proofs.Common.{◌≡◌}
use Rattle.quantities.specs.Lengths.{numbers}
use Rattle.lentrows.specs.Lent.{front_replaced}
use Rattle.exports.proofs.write_bounds.Given as goal

abbrev pub invariant-loop-i : goal.invariant-loop-i
invariant-loop-i l = l.bounds ≡ front_replaced l.i (numbers l.fn.told.bounds) l.initial.bounds
