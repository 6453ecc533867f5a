-- serve makes a tick by one turn for each row of the table.
use Prim.Native.Nat.{◌+◌, ◌<◌}
use native.Mathlib.Numerals.{add-one}
use native.Mathlib.Omega.{arith}
use mathlib.Core.Path.{sym}
use Rattle.std.proofs.Common.{◌++◌, drop, length, length-take, take-append-drop}
use Rattle.std.proofs.lemmas.List.{set-append_left, get_or_append_left}
use Rattle.bench.specs.Serving.{finish_of}
use Rattle.bench.proofs.Turns.{serves_first, serves_next, serves_last}
use Rattle.bench.proofs.tick.serve.Goals as goal

pub loop-i-init : goal.loop-i-init
loop-i-init c =
    rw take-append-drop
    (serves_first c.args.b c.none-finishes.result c.none-finishes.ensures (omega arith))

pub loop-i-preserved : goal.loop-i-preserved
unfolding finish_of
loop-i-preserved c =
    let b = c.args.b in
    let i = c.loop-i.i in
    let items = c.loop-i.state-items in
    let below = drop b.table.count b.states in
    let many = length-take b.table.count b.states in
    let on : i < length items = omega arith in
    rw (← set-append_left items below i _ on)
    (serves_next b (items ++ below) c.loop-i.free c.loop-i.finishes i c.loop-i.invariant (omega arith) (omega arith)
    c.serve_row-turn.result
    (rw get_or_append_left c.serve_row-turn.ensures)
    (record { place = i + 1; response = c.since.result })
    (rw (c.since.ensures, get_or_append_left))
    c.noted-finishes.result
    c.noted-finishes.ensures)

pub returns : goal.returns
returns c =
    let b = c.args.b in
    let many = length-take b.table.count b.states in
    let last = serves_last b (c.loop-i.state-items ++ drop b.table.count b.states) c.loop-i.free c.loop-i.finishes c.loop-i.i c.loop-i.invariant in
    rw add-one (sym (last (omega arith) (omega arith)))
