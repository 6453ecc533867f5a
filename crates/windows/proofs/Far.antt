-- A search may jump farther: from a window that does not pass, as far as M rows above have room to take every tick.
-- Each row with room takes as many more ticks as the window grows by, so M of them take M for each: as much as the M
-- cores gain. What was filled stays filled.
use Prim.Native.Nat.{ℕ, zero, suc, ◌+◌, ◌-◌, ◌*◌, ◌/◌, ◌%◌, ◌≤◌, ◌<◌, min}
use mathlib.Core.Path.{◌≡◌, refl, ap}
use mathlib.Core.List.{List, [], ◌∷◌}
use native.Mathlib.Omega.{arith}
use native.Mathlib.Decide.{dec_le, dec_lt}
use native.Mathlib.Nat.{le_refl, le_trans, div-add-mod', mul-le-mul_right}
use lib.Dec.{ltb→lt, lt→ltb}
use Rattle.laws.specs.Each.{Each}
use Rattle.quantities.specs.Row.{cost, gap, row_of}
use Rattle.windows.specs.Window.{plain, carry, limit, interference}
use Rattle.windows.specs.Choice.{Bounded, bounded, InRange, load, loads, Passes, most, passes}
use Rattle.windows.specs.Jump.{next, room, rooms, roomy, least_room, stride, reach}
use Rattle.windows.proofs.Window.{plain_le_polls, plain_runs, carry_mono, interference_le_work}
use Rattle.windows.proofs.Choice.{passes_means}
use Rattle.windows.proofs.Least.{NoneBefore}
use Rattle.windows.proofs.Jump.{jump}
use Rattle.windows.proofs.Room.{taken, roomy_taken, roomy_least, stride_in, stride_out}

-- what is taken grows with the window as far as the work does, up to `top`
interference_grows : (own x δ work work' top space : ℕ) → own ≤ x → interference own x work + space ≤ top
    → min top (work + δ) ≤ work' → interference own x work + min space δ ≤ interference own (x + δ) work'
unfolding interference limit
interference_grows own x δ work work' top space low fits grown = omega arith

-- without carry-in a row works on until its present poll is over
plain_grows : (c t x δ : ℕ) → 0 < t → min (x / t * c + c) (plain c t x + δ) ≤ plain c t (x + δ)
unfolding plain
plain_grows c t x δ positive =
    let ran = min c (min (x % t) c + δ) in
    let within : x / t * t + (x % t + δ) ≤ x + δ = omega (arith, div-add-mod' x t) in
    omega (arith, plain_runs c t (x / t) (x % t + δ) ran (x + δ) positive (omega arith) (omega arith) within)

-- A row above takes its part of the ticks that the window grows by, whether or not it carries in.
record Grows (own x δ : ℕ) (b : Bounded) : Type 0 where
  without : (load own x b).without + min (room own x b) δ ≤ (load own (x + δ) b).without
  carrying : (load own x b).carrying + min (room own x b) δ ≤ (load own (x + δ) b).carrying

load_grows : (own x δ : ℕ) (b : Bounded) → InRange b → own ≤ x → Grows own x δ b
unfolding room
load_grows own x δ b range low =
    let c = cost b.row in
    let t = gap b.row in
    let r = b.bound in
    let polls = x / t * c + c in
    let positive : 0 < t = omega arith in
    let grown = carry_mono c t r x (x + δ) range.works positive (omega arith) in
    record {
      without =
          interference_grows own x δ (plain c t x) (plain c t (x + δ)) polls (room own x b) low
          (omega (arith, interference_le_work own x (plain c t x), plain_le_polls c t x))
          (plain_grows c t x δ positive);
      carrying =
          interference_grows own x δ (carry c t r x) (carry c t r (x + δ)) (carry c t r x) (room own x b) low
          (omega (arith, interference_le_work own x (carry c t r x)))
          (omega arith);
    }

-- so do all, whichever of them carry in
most_grows : (own x δ m : ℕ) (above : List Bounded) → Each InRange above → own ≤ x
    → most (loads own x above) m + taken δ (rooms own x above) ≤ most (loads own (x + δ) above) m
unfolding most
most_grows own x δ m [] range low = omega arith
most_grows own x δ zero (b ∷ above) range low =
    let grows = load_grows own x δ b range.0 low in
    omega (arith, most_grows own x δ zero above range.1 low)
most_grows own x δ (suc m) (b ∷ above) range low =
    let grows = load_grows own x δ b range.0 low in
    omega (arith, most_grows own x δ m above range.1 low, most_grows own x δ (suc m) above range.1 low)

-- a window that does not pass is filled by the rows above
filled : (M own : ℕ) (above : List Bounded) (x : ℕ) → ¬ Passes M own above x
    → M * limit own x ≤ most (loads own x above) (M - 1)
unfolding passes
filled M own above x fails =
    let Ω = most (loads own x above) (M - 1) in
    elim (dec_lt Ω (M * limit own x)) [
      | yes below ↦ absurd (fails ((passes_means M own above x).0 (lt→ltb Ω (M * limit own x) below)))
      | no full ↦ omega arith
    ]

limit_grows : (own x δ : ℕ) → own ≤ x → limit own (x + δ) ≡ limit own x + δ
unfolding limit
limit_grows own x δ low = omega arith

-- where the rows above take M ticks for each tick that it grows by, a window that does not pass goes on not passing
stays_filled : (M own : ℕ) (above : List Bounded) (x δ : ℕ) → Each InRange above → own ≤ x → ¬ Passes M own above x
    → M * δ ≤ taken δ (rooms own x above) → ¬ Passes M own above (x + δ)
unfolding passes
stays_filled M own above x δ range low fails take holds =
    let y = x + δ in
    let full = filled M own above x fails in
    let more = most_grows own x δ (M - 1) above range low in
    let wider = ap (λ n. M * n) (limit_grows own x δ low) in
    let below = ltb→lt (most (loads own y above) (M - 1)) (M * limit own y) ((passes_means M own above y).1 holds) in
    omega arith

-- the longer jump: if x does not pass and M rows above have room for δ ticks, no window from x to x + δ passes
pub far : (M own : ℕ) (above : List Bounded) (x δ : ℕ) → Each InRange above → own ≤ x → ¬ Passes M own above x
    → M ≤ roomy δ (rooms own x above) → NoneBefore (Passes M own above) x (suc (x + δ))
far M own above x δ range low fails enough y longer less holds =
    let few = y - x in
    let same : y ≡ x + few = omega arith in
    let take = roomy_taken δ few (rooms own x above) (omega arith) in
    let each = mul-le-mul_right few enough in
    stays_filled M own above x few range low fails (omega arith) (rw same at holds)

-- the stride is such a δ
stride_jumps : (M own top : ℕ) (above : List Bounded) (x : ℕ) → Each InRange above → own ≤ x → ¬ Passes M own above x
    → NoneBefore (Passes M own above) x (suc (x + stride M top (rooms own x above)))
stride_jumps M own top above x range low fails y longer less holds =
    let rs = rooms own x above in
    let δ = least_room top rs in
    elim (dec_le M (roomy 1 rs)) [
      | yes enough ↦
          let roomy_enough = le_trans enough (roomy_least top δ rs (le_refl δ)) in
          far M own above x δ range low fails roomy_enough y longer (omega (arith, stride_in M top rs enough)) holds
      | no few ↦
          let same : y ≡ x = omega (arith, stride_out M top rs (omega arith)) in
          fails (rw same at holds)
    ]

-- no window from x, which does not pass, to before the one to try next passes
pub reach_jumps : (M own top : ℕ) (above : List Bounded) (x : ℕ) → 0 < M → Each InRange above → own ≤ x
    → ¬ Passes M own above x → NoneBefore (Passes M own above) x (reach M own top above x)
unfolding reach
reach_jumps M own top above x cores range low fails y longer less holds =
    elim (dec_lt y (next M own above x)) [
      | yes short ↦ jump M own above x cores range low y longer short holds
      | no long ↦ stride_jumps M own top above x range low fails y longer (omega arith) holds
    ]

-- Below a row that works half its gap, a row with cost 1 gets from the window 1 to its bound at once; `next` alone goes
-- from 1 to 2, to 3, and so on.
one_long_jump : reach 1 1 1000000 (bounded (row_of 500000 1000000 1000000) 500000 ∷ []) 1 ≡ 500001
unfolding plain carry limit interference most next room roomy least_room stride reach
one_long_jump = refl
