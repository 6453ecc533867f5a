-- The count: the rows above cannot fill a window that passes, so no stretch gets that long.
use Prim.Native.Nat.{ℕ, ◌+◌, ◌*◌, ◌≤◌, ◌<◌, min}
use mathlib.Core.Path.{◌≡◌, ap}
use mathlib.Core.Bool.{Bool, true, false}
use mathlib.Core.List.{List, [], ◌∷◌}
use native.Mathlib.Omega.{arith}
use native.Mathlib.Decide.{dec_le}
use native.Mathlib.Nat.{mul-le-mul_left, mul-le-mul_right, le_of_mul-le-mul_left}
use Rattle.laws.specs.Each.{Each}
use Rattle.windows.specs.Window.{limit, interference}
use Rattle.windows.specs.Choice.{Bounded, InRange, Passes, loads, carriers, total}
use Rattle.bench.specs.declared.RowState.{RowState}
use Rattle.bench.specs.Serving.{sum}
use Rattle.running.proofs.Invariant.{Above, no_rows, more}
use Rattle.running.proofs.Phase.{work_le}
use Rattle.running.proofs.Above.{flags_each}

-- what the rows above did in the full ticks, each cut off at the limit
abbrev pub cut : ℕ → List ℕ → ℕ
cut limit [] = 0
cut limit (v ∷ vs) = min v limit + cut limit vs

-- a row's work in `busy` ticks, cut off at a limit within them, is no smaller a share of the limit
cut_one : (v busy limit : ℕ) → v ≤ busy → limit ≤ busy → limit * v ≤ busy * min v limit
cut_one v busy limit in_busy short =
    elim (dec_le v limit) [
      | yes h ↦ let e : min v limit ≡ v = omega arith in rw e (mul-le-mul_right v short)
      | no h ↦
          let e : min v limit ≡ limit = omega arith in
          rw e (omega (arith, mul-le-mul_left limit in_busy))
    ]

cut_share : {now start busy : ℕ} (limit : ℕ) {above : List Bounded} {up : List RowState} {fs : List Bool}
    {vs : List ℕ}
    → limit ≤ busy → Above now start busy above up fs vs → limit * sum vs ≤ busy * cut limit vs
cut_share limit short no_rows = omega arith
cut_share {busy} limit short (more {v} w work_v busy_v phase rows) =
    omega (arith, cut_one v busy limit busy_v short, cut_share limit short rows)

-- M rows in each of `busy` ticks are at least M rows in each tick up to the limit
cut_total : {now start busy : ℕ} (M limit : ℕ) {above : List Bounded} {up : List RowState} {fs : List Bool}
    {vs : List ℕ}
    → limit ≤ busy → 0 < busy → sum vs ≡ M * busy → Above now start busy above up fs vs
    → M * limit ≤ cut limit vs
cut_total {busy} M limit {vs} short some full rows =
    let whole = ap (λ n. limit * n) full in
    le_of_mul-le-mul_left {k = busy} (omega (arith, cut_share limit short rows)) some

-- and no more than the rows above can take in the window under the choice that the flags are
cut_le_total : {now start busy : ℕ} (own x : ℕ) {above : List Bounded} {up : List RowState} {fs : List Bool}
    {vs : List ℕ}
    → Each InRange above → now ≡ start + x → Above now start busy above up fs vs
    → cut (limit own x) vs ≤ total (loads own x above) fs
unfolding interference
cut_le_total own x ranges span no_rows = omega arith
cut_le_total own x ranges span (more {f = false} w work_v busy_v phase rows) =
    omega (arith, work_le x ranges.0 span phase, cut_le_total own x ranges.1 span rows)
cut_le_total own x ranges span (more {f = true} w work_v busy_v phase rows) =
    omega (arith, work_le x ranges.0 span phase, cut_le_total own x ranges.1 span rows)

-- A stretch in which the row judged has not run all its own work n stays shorter than each window x that passes
-- with n. If it were as long, it would have at least `limit` full ticks, and the rows above took M · limit in
-- them; but x passes, so they take less.
pub short : {M now start busy own : ℕ} {above : List Bounded} {up : List RowState} {fs : List Bool} {vs : List ℕ}
    (n x : ℕ)
    → Each InRange above → carriers fs < M → sum vs ≡ M * busy → Above now start busy above up fs vs
    → now ≡ start + (busy + own) → own < n → n ≤ x → Passes M n above x → now ≤ start + x → now < start + x
unfolding limit
short {M} {now} {start} {above} {fs} n x ranges few full rows span unfinished low passes le =
    elim (dec_le (start + x) now) [ yes h ↦ absurd (long h) | no h ↦ omega arith ]
  where
    long : start + x ≤ now → ⊥
    long h =
        let L = limit n x in
        let most = passes fs (record { each = flags_each rows; few = omega arith }) in
        let least = cut_total M L (omega arith) (omega arith) full rows in
        let between = cut_le_total n x ranges (omega arith) rows in
        omega arith
