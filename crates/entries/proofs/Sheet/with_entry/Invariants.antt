-- Sheet::with_entry answers the sheet with one row more. The loop's invariant: the carried entry is on its way to its place.
use mathlib.Core.Path.{◌≡◌}
use lib.ListN.{length}
use Rattle.quantities.specs.Limits.{row_capacity}
use Rattle.entries.proofs.Entries.{passing}
use Rattle.entries.proofs.Sheet.with_entry.Given as goal

abbrev pub invariant-loop-i : goal.invariant-loop-i
invariant-loop-i l =
    (l.self ≡ record l.initial.self { entries = l.self.entries })
    × (length l.self.entries ≡ row_capacity)
    × (passing l.count l.i l.self.entries l.carried ≡ passing l.count 0 l.initial.self.entries l.initial.carried)
