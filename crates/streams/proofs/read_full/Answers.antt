-- What a turn of read_full reads stands behind what was read before it.
use Rattle.std.proofs.Common.{◌≤◌, length, arith, rules}
use Rattle.streams.proofs.Reading.{Consumes-append, Consumes-read, ReadsAtMost-read, take-put_mid_more}
use Rattle.streams.proofs.read_full.Goals as goal

pub loop-done-preserved : goal.loop-done-preserved
loop-done-preserved g c =
    let room = c.loop-done.room in
    let part = c.read.new.buf in
    let more : c.unwrap_or-more.result ≤ length part = rw c.unwrap_or-more.ensures (ReadsAtMost-read c.read.result part c.read.ensures.bound) in
    let read = Consumes-read _ _ c.read.result part c.read.ensures.bytes in
    let whole = Consumes-append _ _ _ _ _ c.loop-done.invariant.read read in
    record {
      within = omega arith;
      same_len = search rules;
      read = rw (take-put_mid_more room part c.loop-done.done _ c.unwrap_or-more.result c.loop-done.invariant.within more, c.unwrap_or-more.ensures) whole;
    }
