-- Formulas (5) and (6) are the largest work of a row in a window: no pattern does more, and one attains each.
use Prim.Native.Nat.{ℕ, zero, suc, ◌+◌, ◌-◌, ◌*◌, ◌/◌, ◌%◌, ◌≤◌, ◌<◌, min}
use native.Mathlib.Omega.{arith}
use native.Mathlib.Decide.{dec_le}
use native.Mathlib.Nat.{div-add-mod', mod-lt, le_refl, le_trans, add-le-add, zero-div, zero-mod}
use mathlib.Core.Path.{◌≡◌, ap, subst}
use mathlib.Core.List.{List, [], ◌∷◌}
use Rattle.windows.specs.Window.{plain, carry}
use Rattle.windows.proofs.Window.{plain_runs, plain_mono, carry_runs, cost_le_carry, plain_le_carry}
use Rattle.rowpages.specs.Patterns.{Spaced, work_of, PlainIsLargest, CarryIsLargest, NoMoreThanCarry}

-- no tick is left of the window
plain_none : (c t z : ℕ) → z ≡ 0 → plain c t z ≡ 0
unfolding plain
plain_none c t z e = rw (e, zero-div t, zero-mod t) (omega arith)

-- one poll at the start, and then the work of the window from t ticks later on
step_longer : (c t z : ℕ) → 0 < t → t ≤ z → min c z + plain c t (z - t) ≤ plain c t z
unfolding plain
step_longer c t z h le =
    let q = (z - t) / t in
    let m = (z - t) % t in
    let runs = plain_runs c t (suc q) m (min m c) z h (omega arith) (omega arith)
    (omega (arith, div-add-mod' (z - t) t)) in
    omega (arith, runs)

step_shorter : (c t z : ℕ) → 0 < t → z < t → min c z + plain c t (z - t) ≤ plain c t z
step_shorter c t z h short =
    let over = plain_none c t (z - t) (omega arith) in
    let runs = plain_runs c t 0 z (min c z) z h (omega arith) (omega arith) (omega arith) in
    omega (arith, over, runs)

plain_step : (c t z : ℕ) → 0 < t → min c z + plain c t (z - t) ≤ plain c t z
plain_step c t z h =
    elim (dec_le t z) [ yes le ↦ step_longer c t z h le | no short ↦ step_shorter c t z h (omega arith) ]

-- no pattern from an offset on does more than (5) in the rest of the window
spaced_le_plain : (c t x from : ℕ) (offsets : List ℕ) → 0 < t → Spaced t from offsets
    → work_of c x offsets ≤ plain c t (x - from)
spaced_le_plain c t x from [] h spaced = omega arith
spaced_le_plain c t x from (offset ∷ later) h (low, spaced) =
    let rest = ap (plain c t) {x = x - (offset + t)} {y = x - offset - t} (omega arith) in
    omega (
      arith,
      spaced_le_plain c t x (offset + t) later h spaced,
      rest,
      plain_step c t (x - offset) h,
      plain_mono c t (x - offset) (x - from) h (omega arith),
    )

-- a pattern keeps its spacing from any earlier offset on
spaced_earlier : (t from earlier : ℕ) (offsets : List ℕ) → earlier ≤ from → Spaced t from offsets
    → Spaced t earlier offsets
spaced_earlier t from earlier [] le spaced = tt
spaced_earlier t from earlier (offset ∷ later) le (low, spaced) = (omega arith, spaced)

-- With a poll that came e ticks before the window, no pattern does more than (6).
module _ (c t r e x : ℕ) (c1 : 1 ≤ c) (cr : c ≤ r) (rt : r ≤ t) where
  -- the poll is over by then: as without carry-in
  over_before : r < e → min (c - 1) (r - e) + plain c t (x - (t - e)) ≤ carry c t r x
  over_before late =
      omega
      (arith, plain_mono c t (x - (t - e)) x (omega arith) (omega arith), plain_le_carry c t r x c1 cr rt)

  -- no later poll comes in the window
  alone : x < t - e → min (c - 1) (r - e) + plain c t (x - (t - e)) ≤ carry c t r x
  alone short = omega (arith, plain_none c t (x - (t - e)) (omega arith), cost_le_carry c t r x)

  -- later polls follow
  followed : e ≤ r → t - e ≤ x → min (c - 1) (r - e) + plain c t (x - (t - e)) ≤ carry c t r x
  unfolding plain
  followed in_time long =
      let z = x - (t - e) in
      let runs = carry_runs c t r e (min (c - 1) (r - e)) (z / t) (z % t) (min (z % t) c) x
      (omega arith) rt (omega arith) (omega arith) (omega arith) (omega arith)
      (omega (arith, div-add-mod' z t)) in
      omega (arith, runs)

  carried_le_carry : min (c - 1) (r - e) + plain c t (x - (t - e)) ≤ carry c t r x
  carried_le_carry =
      elim (dec_le e r) [
        | no late ↦ over_before (omega arith)
        | yes in_time ↦
            elim (dec_le (t - e) x) [ yes long ↦ followed in_time long | no short ↦ alone (omega arith) ]
      ]

-- Releases as early as they can be: n of them, from an offset on, one every t ticks.
abbrev steady : (t from n : ℕ) → List ℕ
steady t from zero = []
steady t from (suc n) = from ∷ steady t (from + t) n

steady_spaced : (t from n : ℕ) → Spaced t from (steady t from n)
steady_spaced t from zero = tt
steady_spaced t from (suc n) = (le_refl from, steady_spaced t (from + t) n)

-- all but the last of them are over, and the last came m ticks before the window's end
steady_works : (c t from n m x : ℕ) → c ≤ t → from + n * t + m ≡ x
    → work_of c x (steady t from (suc n)) ≡ n * c + min c m
steady_works c t from zero m x ct e = omega arith
steady_works c t from (suc n) m x ct e =
    omega (arith, steady_works c t (from + t) n m x ct (omega arith))

-- without carry-in they begin with the window
steady_attains_plain : (c t x : ℕ) → c ≤ t → work_of c x (steady t 0 (suc (x / t))) ≡ plain c t x
unfolding plain
steady_attains_plain c t x ct =
    let works = steady_works c t 0 (x / t) (x % t) x ct (omega (arith, div-add-mod' x t)) in
    omega (arith, works)

-- With carry-in the last of them comes c ticks before the window's end, and the first, m ticks after its
-- start, as early as it can after the poll that is carried in.
steady_attains_carry : (c t r x q m : ℕ) → r ≤ t → c ≤ t → c ≤ x → m < t → q * t + m ≡ x - c
    → min (c - 1) (r - (t - m)) + work_of c x (steady t m (suc q)) ≡ q * c + c + min (m - (t - r)) (c - 1)
steady_attains_carry c t r x q m rt ct cx mt e =
    rw (steady_works c t m q c x ct (omega arith), left_over)
    (added (c - 1) (m - (t - r)) (q * c) c)
  where
    left_over : r - (t - m) ≡ m - (t - r)
    left_over = omega arith

    added : (top carried over c : ℕ) → min top carried + (over + min c c) ≡ over + c + min carried top
    added top carried over c = omega arith

pub plain_is_largest : PlainIsLargest
unfolding plain
plain_is_largest row x range =
    let c = row.c.0 in
    let t = row.t.0 in
    record {
      has =
          record {
            offsets = steady t 0 (suc (x / t));
            spaced = steady_spaced t 0 (suc (x / t));
            works = steady_attains_plain c t x (omega arith);
          };
      no_more = λ w by.
          subst (λ v. v ≤ plain c t x) by.works
          (le_trans
          (spaced_le_plain c t x 0 by.offsets (omega arith) by.spaced)
          (plain_mono c t (x - 0) x (omega arith) (omega arith)));
    }

pub no_more_than_carry : NoMoreThanCarry
unfolding carry
no_more_than_carry row r x w range low high by =
    let c = row.c.0 in
    let t = row.t.0 in
    let later = spaced_le_plain c t x (t - by.e) by.offsets (omega arith) by.spaced in
    let most = carried_le_carry c t r by.e x range.some_work low high in
    subst (λ v. v ≤ carry c t r x) by.works (le_trans (add-le-add (le_refl _) later) most)

pub carry_is_largest : CarryIsLargest
unfolding carry
carry_is_largest row r x range low high long =
    let c = row.c.0 in
    let t = row.t.0 in
    let m = (x - c) % t in
    let q = (x - c) / t in
    let short : m < t = mod-lt (x - c) (omega arith) in
    let releases = steady t m (suc q) in
    record {
      has =
          record {
            e = t - m;
            before = omega arith;
            offsets = releases;
            spaced = spaced_earlier t m (t - (t - m)) releases (omega arith) (steady_spaced t m (suc q));
            works = steady_attains_carry c t r x q m high (omega arith) long short (div-add-mod' (x - c) t);
          };
      no_more = λ w. no_more_than_carry row r x w range low high;
    }
