-- The room for the input is the one that document 01 names, and it is enough.
use mathlib.Core.Path.{refl}
use Rattle.text.proofs.Text.{text_first_bytes}
use Rattle.dipperslate.specs.Reading.{RoomOf1024, RoomDecides}

pub room_of_1024 : RoomOf1024
room_of_1024 = refl

pub room_decides : RoomDecides
room_decides = text_first_bytes
