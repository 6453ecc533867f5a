-- Sheet::with_entry answers the sheet with one row more.
use native.Mathlib.Numerals.{add-one}
use native.Mathlib.Omega.{arith}
use mathlib.Core.Path.{◌≡◌, refl, ap, ◌∙◌}
use lib.ListN.{length-set}
use borrow.Author.Tests.{lt-ltb}
use Rattle.quantities.specs.Limits.{row_capacity}
use Rattle.entries.specs.declared.Sheet.{Sheet}
use Rattle.entries.specs.Entries.{entries_of, with_entry}
use Rattle.entries.proofs.Entries.{passing_stays, passing_goes, passing_end, passing_start}
use Rattle.entries.proofs.Sheet.with_entry.Goals as goal
use Rattle.entries.proofs.Sheet.with_entry.Goals.{then-carried-here, else-carried-here}

pub loop-i-preserved : goal.loop-i-preserved
loop-i-preserved c =
    let n = c.args.self.count in
    let l = c.loop-i in
    elim c.if-carried-here.branch [
      | then-carried-here w ↦
          (rw w.self-is (rw l.invariant.0 refl), rw w.self-is (simp length-set l.invariant.1), rw (w.self-is, w.carried-is, add-one) (passing_goes n l.i l.self.entries l.carried (omega arith) (omega arith) w.if-carried-here.true ∙ l.invariant.2))
      | else-carried-here w ↦
          (rw w.self-is l.invariant.0, rw w.self-is l.invariant.1, rw (w.self-is, w.carried-is, add-one) (passing_stays n l.i l.self.entries l.carried (omega arith) (omega arith) w.if-carried-here.false ∙ l.invariant.2))
    ]

pub returns-after-loop-i : goal.returns-after-loop-i
unfolding with_entry entries_of
returns-after-loop-i c =
    let self = c.args.self in
    let l = c.loop-i in
    let e : l.i ≡ self.count = omega arith in
    let q = rw e at l.invariant.2 in
    let cores = ap (λ (s : Sheet). s.cores) l.invariant.0 in
    let tick = ap (λ (s : Sheet). s.tick) l.invariant.0 in
    rw (lt-ltb self.count row_capacity (omega arith), cores, tick, passing_end self.count l.self.entries l.carried (omega arith), q, passing_start self.count self.entries c.args.new)
