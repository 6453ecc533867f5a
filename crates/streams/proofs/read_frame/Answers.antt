-- What read_frame reads is a frame.
use Rattle.std.proofs.Common.{arith}
use Rattle.streams.proofs.Reading.{Consumes-frame, EndsInside-bytes}
use Rattle.streams.proofs.read_frame.Goals as goal

pub returns-clause-read : goal.returns-clause-read
returns-clause-read g c =
    Consumes-frame _ _ _ c.read_full.new.room c.read_full-2.new.room _ _ _ _ c.read_full.ensures.read c.read_full-2.ensures.read (omega arith) (omega arith) (omega arith) c.size_in-size.ensures.named

pub returns-then-read_full-size-clause-cut : goal.returns-then-read_full-size-clause-cut
returns-then-read_full-size-clause-cut g c _ =
    EndsInside-bytes _ _ _ c.read_full.new.room _ _ _ c.read_full.ensures.read c.read_full-2.ensures.read (omega arith) c.size_in-size.ensures.named c.size_in-size.ensures.short (omega arith)
