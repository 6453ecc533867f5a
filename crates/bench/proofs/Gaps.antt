-- When a release keeps the gap: at the earliest T ticks after the last one, and a first release at each instant.
use Prim.Native.Nat.{ℕ, ◌+◌, ◌-◌, ◌≤◌, ◌<◌}
use native.Mathlib.Omega.{arith}
use mathlib.Core.Path.{◌≡◌, refl}
use mathlib.Core.Bool.{true, false}
use borrow.Author.Tests.{lt-ltb, le-ltb, ltb-false}
use Rattle.std.specs.Prelude.{None, Some}
use Rattle.quantities.specs.declared.Instant.{Instant}
use Rattle.bench.specs.Refusal.{too_soon}

pub first_never_soon : (now gap : ℕ) → too_soon now gap None ≡ false
unfolding too_soon
first_never_soon now gap = refl

-- up to T − 1 ticks after the last release a release is too soon
pub gap_not_over : (now gap : ℕ) (at : Instant) → now < at.0 + gap → at.0 ≤ now → too_soon now gap (Some at) ≡ true
unfolding too_soon
gap_not_over now gap at h past = lt-ltb (now - at.0) gap (omega arith)

-- from T ticks on it is not
pub gap_over : (now gap : ℕ) (at : Instant) → at.0 + gap ≤ now → too_soon now gap (Some at) ≡ false
unfolding too_soon
gap_over now gap at h = le-ltb (now - at.0) gap (omega arith)

-- what a release that is not too soon says of the last one
pub gap_kept : (now gap : ℕ) (at : Instant) → too_soon now gap (Some at) ≡ false → gap ≤ now - at.0
unfolding too_soon
gap_kept now gap at e = ltb-false (now - at.0) gap e
