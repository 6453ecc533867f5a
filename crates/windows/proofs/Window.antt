-- The laws of the window formulas: no polls do more work in a window, how they grow, how large they get.
use Prim.Native.Nat.{ℕ, suc, ◌+◌, ◌-◌, ◌*◌, ◌/◌, ◌%◌, ◌≤◌, ◌<◌, min, max}
use mathlib.Core.Path.{◌≡◌}
use native.Mathlib.Decide.{dec_le}
use native.Mathlib.Nat.{div-add-mod', mod-lt}
use native.Mathlib.Nat.{le_refl, le_dest, add-le-add}
use native.Mathlib.Omega.{arith}
use Rattle.laws.proofs.Numbers.{div_mul_add_mod_le, stairs}
use Rattle.windows.specs.Window.{plain, carry, limit, interference}

-- Without carry-in.

-- a row has worked no more than its polls so far, with the present one
pub plain_le_polls : (c t x : ℕ) → plain c t x ≤ x / t * c + c
unfolding plain
plain_le_polls c t x = omega arith

-- Work that fits: j polls are over, and another, which came s ticks before the window's end, has run b ticks.
pub plain_runs : (c t j s b x : ℕ) → 0 < t → b ≤ c → b ≤ s → j * t + s ≤ x → j * c + b ≤ plain c t x
unfolding plain
plain_runs c t j s b x h bc bs le =
    stairs t c j s b (x / t) (x % t) (min (x % t) c) (mod-lt x h)
    (omega (arith, div-add-mod' x t)) bc (λ k. omega arith)

pub plain_mono : (c t x y : ℕ) → 0 < t → x ≤ y → plain c t x ≤ plain c t y
unfolding plain
plain_mono c t x y h le =
    plain_runs c t (x / t) (x % t) (min (x % t) c) y h
    (omega arith) (omega arith) (omega (arith, div-add-mod' x t))

-- a row works no more ticks than the window has
pub plain_le_window : (c t x : ℕ) → c ≤ t → plain c t x ≤ x
unfolding plain
plain_le_window c t x h = omega (arith, div_mul_add_mod_le x t c h)

-- With carry-in.

-- the carried ticks, at most `top`, where m ticks are left over from whole gaps
abbrev carried : (t r top m : ℕ) → ℕ
carried t r top m = min (m - (t - r)) top

carried_mono : (t r r' top m m' : ℕ) → r ≤ r' → m ≤ m' → carried t r top m ≤ carried t r' top m'
carried_mono t r r' top m m' k le = omega arith

-- The steps of carry are one gap ahead of those of the window without its last c ticks.
carry_stairs : (c t r q m u x : ℕ) → 0 < t → u ≤ c → q * t + m ≤ x - c + t
    → (m ≤ (x - c) % t → u ≤ carried t r (c - 1) ((x - c) % t)) → q * c + u ≤ carry c t r x
unfolding carry
carry_stairs c t r q m u x h uc le rests =
    let y = x - c in
    let within : q * t + m ≤ suc (y / t) * t + y % t = omega (arith, div-add-mod' y t) in
    omega
    (arith, stairs t c q m u (suc (y / t)) (y % t) (carried t r (c - 1) (y % t)) (mod-lt y h) within uc rests)

-- A rest m that is u more than from the bound to the next release carries u ticks, if a poll has more.
carry_reach : (c t r q m u x : ℕ) → 0 < t → r ≤ t → u ≤ c → q * t + m ≤ x - c + t
    → (m < t → u < c) → u + t ≤ m + r → q * c + u ≤ carry c t r x
carry_reach c t r q m u x h rt uc within few far =
    carry_stairs c t r q m u x h uc within
    (λ l. let k = few (omega (arith, mod-lt (x - c) h)) in omega arith)

-- Work that fits: a poll that came e ticks before the window has run a ticks in it; j polls that came in the
-- window are over, and another, which came s ticks before the window's end, has run b ticks.
pub carry_runs : (c t r e a j s b x : ℕ) → c ≤ t → r ≤ t → a < c → a + e ≤ r → b ≤ c → b ≤ s
    → suc j * t + s ≤ x + e → a + j * c + b ≤ carry c t r x
carry_runs c t r e a j s b x ct rt ac ae bc bs le =
    elim (dec_le c (a + b)) [ yes h ↦ whole (le_dest h) | no h ↦ part h ]
  where
    whole : (u : ℕ) × (c + u ≡ a + b) → a + j * c + b ≤ carry c t r x
    whole (u, f) =
        let k = carry_reach c t r (suc j) (s + t - c - e) u x (omega arith) rt
        (omega arith) (omega arith) (λ l. omega arith) (omega arith) in
        omega arith

    part : (c ≤ a + b → ⊥) → a + j * c + b ≤ carry c t r x
    part h =
        let k = carry_reach c t r j (s + t + t - c - e) (a + b) x (omega arith) rt
        (omega arith) (omega arith) (λ l. omega arith) (omega arith) in
        omega arith

-- one poll is always within it
pub cost_le_carry : (c t r x : ℕ) → c ≤ carry c t r x
unfolding carry
cost_le_carry c t r x = omega arith

pub carry_mono : (c t r x y : ℕ) → 1 ≤ c → 0 < t → x ≤ y → carry c t r x ≤ carry c t r y
unfolding carry
carry_mono c t r x y _ h le =
    let z = x - c in
    let within : suc (z / t) * t + z % t ≤ y - c + t = omega (arith, div-add-mod' z t) in
    let rests = carried_mono t r r (c - 1) (z % t) ((y - c) % t) (le_refl r) in
    let u = carried t r (c - 1) (z % t) in
    let k = carry_stairs c t r (suc (z / t)) (z % t) u y h (omega arith) within rests in
    omega arith

pub carry_mono_bound : (c t r r' x : ℕ) → r ≤ r' → carry c t r x ≤ carry c t r' x
unfolding carry
carry_mono_bound c t r r' x le =
    let m = (x - c) % t in
    add-le-add (le_refl ((x - c) / t * c + c)) (carried_mono t r r' (c - 1) m m le (le_refl m))

-- a row does no less with carry-in than without
pub plain_le_carry : (c t r x : ℕ) → 1 ≤ c → c ≤ r → r ≤ t → plain c t x ≤ carry c t r x
unfolding plain
plain_le_carry c t r x c1 cr rt =
    carry_reach c t r (x / t) (x % t + t - c) (min (x % t) c) x (omega arith) rt (omega arith)
    (omega (arith, div-add-mod' x t)) (λ l. omega arith) (omega arith)

-- and no more than one poll and what it does without in the window less that poll
pub carry_le_plain : (c t r x : ℕ) → carry c t r x ≤ c + plain c t (x - c)
unfolding plain carry
carry_le_plain c t r x = omega arith

-- a row with carry-in works no more ticks than the window has, or than one poll takes
pub carry_le_window : (c t r x : ℕ) → c ≤ t → carry c t r x ≤ max c x
carry_le_window c t r x h = omega (arith, carry_le_plain c t r x, plain_le_window c t (x - c) h)

-- Interference.

pub interference_mono : (own x y w w' : ℕ) → x ≤ y → w ≤ w' → interference own x w ≤ interference own y w'
unfolding interference limit
interference_mono own x y w w' le k = omega arith

pub interference_le_work : (own x w : ℕ) → interference own x w ≤ w
unfolding interference
interference_le_work own x w = omega arith

pub interference_le_limit : (own x w : ℕ) → interference own x w ≤ limit own x
unfolding interference
interference_le_limit own x w = omega arith
