-- Laws of the numbers on a sheet: a field by its bytes.
use Prim.Native.Nat.{ℕ, suc, ◌+◌, ◌*◌, ◌≤◌}
use native.Mathlib.Omega.{arith}
use native.Mathlib.Numerals.{add-one}
use mathlib.Core.Path.{◌≡◌, ap}
use mathlib.Core.List.{List, [], ◌∷◌}
use lib.ListN.{length, get_or}
use lib.Seq.{drop-cons}
use Rattle.std.specs.Int.{w16, w32, from_be_bytes}
use Rattle.records.specs.Bytes.{number_after, field}

module _ (part : List ℕ) (at : ℕ) where
  pub field_one : at + 1 ≤ length part → field at 1 part ≡ get_or part at 0
  unfolding field number_after
  field_one h = rw (drop-cons part at 0 (omega arith)) (omega arith)

  pub field_two : at + 2 ≤ length part → field at 2 part ≡ get_or part at 0 * 256 + get_or part (at + 1) 0
  unfolding field number_after
  field_two h =
      rw (add-one, drop-cons part at 0 (omega arith), drop-cons part (suc at) 0 (omega arith)) (omega arith)

  pub field_four : at + 4 ≤ length part → field at 4 part ≡ field at 2 part * 65536 + field (at + 2) 2 part
  unfolding field number_after
  field_four h =
      let two : at + 2 ≡ suc (suc at) = omega arith in
      rw
      (two, drop-cons part at 0 (omega arith), drop-cons part (suc at) 0 (omega arith), drop-cons part (suc (suc at)) 0 (omega arith), drop-cons part (suc (suc (suc at))) 0 (omega arith))
      (omega arith)

-- A field as the library puts the bytes together.
module _ (part : List ℕ) (at : ℕ) where
  pub two_be : at + 2 ≤ length part
      → field at 2 part ≡ from_be_bytes w16 (get_or part at 0 ∷ get_or part (at + 1) 0 ∷ [])
  two_be h = let e = field_two part at h in omega arith

  pub four_be : at + 4 ≤ length part
      → field at 4 part
      ≡ from_be_bytes w32 (get_or part at 0 ∷ get_or part (at + 1) 0 ∷ get_or part (at + 2) 0 ∷ get_or part (at + 3) 0 ∷ [])
  four_be h =
      let e = field_four part at h in
      let high = field_two part at (omega arith) in
      let low = field_two part (at + 2) (omega arith) in
      let third : at + 2 + 1 ≡ at + 3 = omega arith in
      let last = ap (λ (i : ℕ). get_or part i 0) third in
      omega arith
