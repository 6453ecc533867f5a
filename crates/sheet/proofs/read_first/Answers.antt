-- read_first answers the first sheet. The loop's invariant: what is read from here on is the first sheet.
use native.Mathlib.Omega.{arith}
use mathlib.Core.Path.{sym, ◌∙◌}
use Rattle.sheet.specs.Reader.{ended}
use Rattle.sheet.proofs.Checks.{not_refused}
use Rattle.sheet.proofs.Turns.{turn_refuses, turn_some, turn_fits, turn_ends}
use Rattle.sheet.proofs.read_first.Goals as goal

pub returns-in-Err : goal.returns-in-Err
returns-in-Err c =
    c.no_first.ensures
    ∙ turn_refuses _ _ _ c.loop-fault.invariant _ c.record_on-found.ensures _ c.check_record.ensures _ c.in-Err.is

pub overflow_add-next : goal.overflow_add-next
overflow_add-next c =
    omega
    (arith, turn_fits _ _ _ c.loop-fault.invariant _ c.record_on-found.ensures _ c.check_record.ensures (not_refused _ c.in_default.not-Err) _ c.size_on.ensures)

pub returns-then-is_end : goal.returns-then-is_end
unfolding ended
returns-then-is_end c =
    turn_ends _ _ _ c.loop-fault.invariant _ c.record_on-found.ensures _ c.check_record.ensures (not_refused _ c.in_default.not-Err) _ c.size_on.ensures (sym c.is_end.ensures ∙ c.if-is_end.true)

pub loop-fault-smaller : goal.loop-fault-smaller
loop-fault-smaller c =
    let some = turn_some _ _ _ c.loop-fault.invariant _ c.record_on-found.ensures _ c.check_record.ensures (not_refused _ c.in_default.not-Err) _ c.size_on.ensures in
    let fits = turn_fits _ _ _ c.loop-fault.invariant _ c.record_on-found.ensures _ c.check_record.ensures (not_refused _ c.in_default.not-Err) _ c.size_on.ensures in
    omega arith
