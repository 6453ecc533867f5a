-- The room for the input, and what was read: it lies within the room; of the bytes themselves nothing can be said.
use Rattle.std.specs.Prelude.{◌≡◌, List, ℕ, Result, Ok, Err, take}
use Rattle.streams.specs.Counts.{IsPrefixLen}
use Rattle.text.specs.Text.{text_of}

-- the program reads at most 1,024 bytes
abbrev pub input_room : ℕ
input_room = 1024

-- The room has exactly the bytes that document 01 names, whatever the definition above is changed to.
abbrev pub RoomOf1024 : Type 0
RoomOf1024 = input_room ≡ 1024

-- What stands past the room makes no difference to a sheet's text.
abbrev pub RoomDecides : Type 0
RoomDecides = (sheet : List ℕ) → text_of (take input_room sheet) ≡ text_of sheet

-- this many bytes of the room were read, or a read failed
abbrev pub Within : {E : Type 0} → Result ℕ E → List ℕ → Type 0
Within (Ok n) room = IsPrefixLen n room
Within (Err why) room = Unit {0}
