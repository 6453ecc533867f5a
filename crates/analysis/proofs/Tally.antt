-- The count of rows with room and the least room, kept row by row, are those of the rooms.
use Prim.Native.Nat.{ℕ, zero, suc, ◌+◌, ◌≤◌, min}
use native.Mathlib.Omega.{arith}
use native.Mathlib.Numerals.{add-one}
use mathlib.Core.Path.{◌≡◌, refl}
use mathlib.Core.List.{List, ◌∷◌}
use Rattle.windows.specs.Jump.{roomy, least_room}
use Rattle.windows.proofs.Room.{roomy_in, roomy_out}
use Rattle.analysis.specs.Engine.{count_with, least_with}

-- a row without room changes nothing, one with room counts
pub none_more : (room count least : ℕ) → room ≡ 0 → (count ≡ count_with room count) × (least ≡ least_with room least)
unfolding count_with least_with
none_more zero count least e = (refl, refl)
none_more (suc room) count least e = absurd (omega arith)

pub some_more : (room count least : ℕ) → (room ≡ 0 → ⊥)
    → (count + 1 ≡ count_with room count) × (min room least ≡ least_with room least)
unfolding count_with least_with
some_more zero count least e = absurd (e refl)
some_more (suc room) count least e = (add-one count, refl)

pub count_le : (room count : ℕ) → count_with room count ≤ suc count
unfolding count_with
count_le zero count = omega arith
count_le (suc room) count = omega arith

-- one row more at the front
pub count_row : (room : ℕ) (rooms : List ℕ) → roomy 1 (room ∷ rooms) ≡ count_with room (roomy 1 rooms)
unfolding count_with
count_row zero rooms = roomy_out 1 0 rooms (omega arith)
count_row (suc room) rooms = roomy_in 1 (suc room) rooms (omega arith)

pub least_row : (top room : ℕ) (rooms : List ℕ) → least_room top (room ∷ rooms) ≡ least_with room (least_room top rooms)
unfolding least_with least_room
least_row top zero rooms = refl
least_row top (suc room) rooms = refl
