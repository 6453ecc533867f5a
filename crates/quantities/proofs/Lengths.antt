-- Laws of lengths: lengths and their numbers are each other's, and an array of bounds holds these, and 0 behind them.
use Prim.Native.Nat.{ℕ, zero, suc, ◌-◌, ◌≤◌}
use native.Mathlib.Omega.{arith}
use mathlib.Core.Path.{◌≡◌, refl, ap, ◌∙◌}
use mathlib.Core.List.{List, [], ◌∷◌, ◌++◌, map, map-append, map-map, map-id}
use lib.ListN.{length, get_or, take, drop, replicate, length-take, length-map, take-append-drop}
use Rattle.laws.proofs.Lists.{get_d_padded, map_take}
use Rattle.quantities.specs.Limits.{row_capacity}
use Rattle.quantities.specs.Lengths.{ticks, numbers, in_array}
use Rattle.quantities.specs.declared.Ticks.{Ticks}

-- numbers as lengths and back, and lengths as numbers and back
numbers_ticks : (bounds : List ℕ) → numbers (map ticks bounds) ≡ bounds
numbers_ticks bounds = map-map (λ (t : Ticks). t.0) ticks bounds ∙ map-id bounds

ticks_numbers : (bounds : List Ticks) → map ticks (numbers bounds) ≡ bounds
ticks_numbers bounds = map-map ticks (λ (t : Ticks). t.0) bounds ∙ map-id bounds

numbers_blank : (n : ℕ) → numbers (replicate n (ticks 0)) ≡ replicate n 0
numbers_blank zero = refl
numbers_blank (suc n) = ap (λ (ns : List ℕ). 0 ∷ ns) (numbers_blank n)

-- bounds in an array are the bounds, and 0 behind them
pub numbers_in_array : (bounds : List ℕ)
    → numbers (in_array bounds) ≡ bounds ++ replicate (row_capacity - length bounds) 0
unfolding in_array
numbers_in_array bounds = rw (map-append, numbers_ticks, numbers_blank)

-- what is read in an array of bounds is what is read in the bounds
pub get_d_array : (bounds : List ℕ) (i : ℕ) → get_or (numbers (in_array bounds)) i 0 ≡ get_or bounds i 0
get_d_array bounds i = rw (numbers_in_array bounds) (get_d_padded bounds (row_capacity - length bounds) i 0)

-- the bounds in an array, read back
pub found_are : (bounds : List ℕ) → take (length bounds) (numbers (in_array bounds)) ≡ bounds
unfolding in_array
found_are bounds = front bounds _
  where
    front : (bs : List ℕ) (rest : List Ticks) → take (length bs) (numbers (map ticks bs ++ rest)) ≡ bs
    front [] rest = refl
    front (b ∷ bs) rest = ap (λ (zs : List ℕ). b ∷ zs) (front bs rest)

-- the array whose entries from i on are 0 holds the first i bounds
pub array_holds : (bounds : List Ticks) (i : ℕ) → i ≤ length bounds
    → drop i bounds ≡ replicate (row_capacity - i) (ticks 0) → in_array (take i (numbers bounds)) ≡ bounds
unfolding in_array
array_holds bounds i low blank =
    let long : length (take i (numbers bounds)) ≡ i =
    length-take i (numbers bounds) ∙ omega (arith, length-map bounds (λ (t : Ticks). t.0)) in
    rw (long, ← blank, map_take ticks i (numbers bounds), ticks_numbers bounds) (take-append-drop i bounds)
