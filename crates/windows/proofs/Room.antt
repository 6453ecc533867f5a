-- Rows with room: how many there are, what they take of a window's growth, and the stride that M of them allow.
use Prim.Native.Nat.{ℕ, zero, suc, ◌+◌, ◌*◌, ◌≤◌, ◌<◌, min}
use mathlib.Core.Path.{◌≡◌}
use mathlib.Core.List.{List, [], ◌∷◌}
use native.Mathlib.Omega.{arith}
use native.Mathlib.Decide.{dec_le}
use native.Mathlib.Nat.{le_trans}
use borrow.Author.Tests.{le-leb, lt-leb}
use Rattle.windows.specs.Jump.{roomy, least_room, stride}

-- what the rows take of the δ ticks that the window grows by
abbrev pub taken : ℕ → List ℕ → ℕ
taken δ [] = 0
taken δ (r ∷ rs) = min r δ + taken δ rs

-- one row more: with room, or without
pub roomy_in : (δ r : ℕ) (rs : List ℕ) → δ ≤ r → roomy δ (r ∷ rs) ≡ suc (roomy δ rs)
unfolding roomy
roomy_in δ r rs has = rw (le-leb δ r has, roomy)

pub roomy_out : (δ r : ℕ) (rs : List ℕ) → r < δ → roomy δ (r ∷ rs) ≡ roomy δ rs
unfolding roomy
roomy_out δ r rs lacks = rw (lt-leb δ r lacks, roomy)

roomy_more : (δ r : ℕ) (rs : List ℕ) → roomy δ rs ≤ roomy δ (r ∷ rs)
roomy_more δ r rs =
    elim (dec_le δ r) [
      | yes has ↦ rw (roomy_in δ r rs has) (omega arith)
      | no lacks ↦ rw (roomy_out δ r rs (omega arith)) (omega arith)
    ]

-- rows with room for δ ticks take each of fewer
pub roomy_taken : (δ few : ℕ) (rs : List ℕ) → few ≤ δ → roomy δ rs * few ≤ taken few rs
unfolding roomy
roomy_taken δ few [] less = omega arith
roomy_taken δ few (r ∷ rs) less =
    let rest = roomy_taken δ few rs less in
    elim (dec_le δ r) [
      | yes has ↦ rw (roomy_in δ r rs has) (omega arith)
      | no lacks ↦ rw (roomy_out δ r rs (omega arith)) (omega arith)
    ]

-- rows that have some room have room for the least of it
pub roomy_least : (top δ : ℕ) (rs : List ℕ) → δ ≤ least_room top rs → roomy 1 rs ≤ roomy δ rs
unfolding roomy least_room
roomy_least top δ [] less = omega arith
roomy_least top δ (zero ∷ rs) less =
    rw (roomy_out 1 0 rs (omega arith)) (le_trans (roomy_least top δ rs less) (roomy_more δ 0 rs))
roomy_least top δ (suc r ∷ rs) less =
    let rest = roomy_least top δ rs (omega arith) in
    rw (roomy_in 1 (suc r) rs (omega arith), roomy_in δ (suc r) rs (omega arith)) (omega arith)

pub least_room_le : (top : ℕ) (rs : List ℕ) → least_room top rs ≤ top
unfolding least_room
least_room_le top [] = omega arith
least_room_le top (zero ∷ rs) = least_room_le top rs
least_room_le top (suc r ∷ rs) = omega (arith, least_room_le top rs)

-- the stride where M rows have some room, and where fewer have
pub stride_in : (M top : ℕ) (rs : List ℕ) → M ≤ roomy 1 rs → stride M top rs ≡ least_room top rs
unfolding stride
stride_in M top rs enough = rw (le-leb M (roomy 1 rs) enough, stride)

pub stride_out : (M top : ℕ) (rs : List ℕ) → roomy 1 rs < M → stride M top rs ≡ 0
unfolding stride
stride_out M top rs few = rw (lt-leb M (roomy 1 rs) few, stride)

pub stride_le_top : (M top : ℕ) (rs : List ℕ) → stride M top rs ≤ top
stride_le_top M top rs =
    elim (dec_le M (roomy 1 rs)) [
      | yes enough ↦ rw (stride_in M top rs enough) (least_room_le top rs)
      | no few ↦ rw (stride_out M top rs (omega arith)) (omega arith)
    ]
