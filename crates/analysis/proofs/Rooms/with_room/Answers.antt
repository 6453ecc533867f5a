-- Rooms::with_room counts a row with room and keeps the least.
use Rattle.analysis.proofs.Tally.{none_more, some_more}
use Rattle.analysis.proofs.Rooms.with_room.Goals as goal

pub returns-then-room-eq0 : goal.returns-then-room-eq0
returns-then-room-eq0 c = none_more _ _ _ c.if-room-eq0.true

pub returns : goal.returns
returns c = rw c.min.ensures (some_more _ _ _ c.if-room-eq0.false)
