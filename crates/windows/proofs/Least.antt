-- What `least` means: some x exactly when x is the least number that passes, none exactly when none passes.
use Prim.Native.Nat.{ℕ, zero, suc, ◌-◌, ◌≤◌, ◌<◌}
use mathlib.Core.Path.{◌≡◌, refl, ap}
use mathlib.Core.Logic.{◌↔◌}
use mathlib.Core.Bool.{Bool, true, false}
use mathlib.Core.Option.{Option, none, some}
use native.Mathlib.Omega.{arith}
use native.Mathlib.Decide.{dec_lt}
use lib.Dec.{T}
use Rattle.windows.specs.Least.{first_of, least, IsLeast, NoneIn}

-- a number passes the test
abbrev pub Passed : (ℕ → Bool) → ℕ → Type 0
Passed test y = T (test y)

-- What an answer says of the numbers from `from` to `to`.
pub data Outcome (P : ℕ → Type 0) (from to : ℕ) : Option ℕ → Type 0 where
  nothing : NoneIn P from to → Outcome P from to none
  found : {x : ℕ} → IsLeast P from to x → Outcome P from to (some x)

pub outcome_some : {P : ℕ → Type 0} {from to x : ℕ} → Outcome P from to (some x) ↔ IsLeast P from to x
outcome_some {P} {from} {to} {x} = (told, found)
  where
    told : Outcome P from to (some x) → IsLeast P from to x
    told (found is_least) = is_least

pub outcome_none : {P : ℕ → Type 0} {from to : ℕ} → Outcome P from to none ↔ NoneIn P from to
outcome_none {P} {from} {to} = (told, nothing)
  where
    told : Outcome P from to none → NoneIn P from to
    told (nothing none_in) = none_in

-- No number from `from` to before `mid` has the property: what a search that stands at `mid` has left behind.
abbrev pub NoneBefore : (P : ℕ → Type 0) → (from mid : ℕ) → Type 0
NoneBefore P from mid = (y : ℕ) → from ≤ y → y < mid → P y → ⊥

-- A search that goes up starts with nothing behind it, leaves behind numbers without the property, and ends at one
-- that has it, or beyond `to`.
pub before_start : (P : ℕ → Type 0) (from : ℕ) → NoneBefore P from from
before_start P from y low less holds = omega arith

pub before_on : {P : ℕ → Type 0} {from mid on : ℕ}
    → NoneBefore P from mid → NoneBefore P mid on → NoneBefore P from on
before_on {mid = mid} behind ahead y low less holds =
    elim (dec_lt y mid) [ yes l ↦ behind y low l holds | no l ↦ ahead y (omega arith) less holds ]

pub before_least : {P : ℕ → Type 0} {from to x : ℕ}
    → from ≤ x → x ≤ to → NoneBefore P from x → P x → IsLeast P from to x
before_least low high before holds =
    record { low = low; high = high; holds = holds; first = λ y above less. before y (omega arith) less }

pub before_none : {P : ℕ → Type 0} {from to x : ℕ} → to < x → NoneBefore P from x → NoneIn P from to
before_none over before y low high = before y low (omega arith)

-- the step of every search: with nothing before `mid`, the outcome from `mid` is the outcome from `from`
pub widen : {P : ℕ → Type 0} {mid to : ℕ} {o : Option ℕ} (from : ℕ) → from ≤ mid → NoneBefore P from mid
    → Outcome P mid to o → Outcome P from to o
widen {mid = mid} from far before (nothing none_on) =
    nothing
    (λ y low high holds.
    elim (dec_lt y mid) [ yes l ↦ before y low l holds | no l ↦ none_on y (omega arith) high holds ])
widen {mid = mid} from far before (found {x} least_on) =
    found
    {x = x}
    (record {
      low = omega arith;
      high = least_on.high;
      holds = least_on.holds;
      first = λ y low less holds.
          elim (dec_lt y mid)
          [ yes l ↦ before y (omega arith) l holds | no l ↦ least_on.first y (omega arith) less holds ];
    })

-- properties that agree from `from` to `to` have the same outcome there
pub outcome_agrees : {P Q : ℕ → Type 0} {from to : ℕ} {o : Option ℕ}
    → ((y : ℕ) → from ≤ y → y ≤ to → P y ↔ Q y) → Outcome P from to o → Outcome Q from to o
outcome_agrees agree (nothing none_in) =
    nothing (λ y low high holds. none_in y low high ((agree y low (omega arith)).1 holds))
outcome_agrees agree (found {x} is_least) =
    found
    (record {
      low = is_least.low;
      high = is_least.high;
      holds = (agree x is_least.low is_least.high).0 is_least.holds;
      first = λ y low less holds. is_least.first y low less ((agree y (omega arith) (omega arith)).1 holds);
    })

-- the least number is at most each that passes
pub least_le : {P : ℕ → Type 0} {from to x : ℕ} → IsLeast P from to x → (y : ℕ) → from ≤ y → P y → x ≤ y
least_le {x = x} is_least y low holds =
    elim (dec_lt y x) [ yes less ↦ absurd (is_least.first y low less holds) | no l ↦ omega arith ]

-- there is one least number
pub least_unique : {P : ℕ → Type 0} {from to : ℕ} (x y : ℕ)
    → IsLeast P from to x → IsLeast P from to y → x ≡ y
least_unique x y p q = omega (arith, least_le p y q.low q.holds, least_le q x p.low p.holds)

-- there is one outcome
pub outcome_unique : {P : ℕ → Type 0} {from to : ℕ} {o p : Option ℕ}
    → Outcome P from to o → Outcome P from to p → o ≡ p
outcome_unique (nothing none_in) (nothing again) = refl
outcome_unique (nothing none_in) (found {x} q) = absurd (none_in x q.low q.high q.holds)
outcome_unique (found {x} p) (nothing none_in) = absurd (none_in x p.low p.high p.holds)
outcome_unique (found {x} p) (found {x = y} q) = ap some (least_unique x y p q)

-- the first of this many numbers is the least of them
first_outcome : (test : ℕ → Bool) (count from to : ℕ) → count ≡ suc to - from
    → Outcome (Passed test) from to (first_of test count from)
unfolding first_of
first_outcome test zero from to e = nothing (λ y low high t. omega arith)
first_outcome test (suc count) from to e =
    go (test from) refl (first_outcome test count (suc from) to (omega arith))
  where
    go : (b : Bool) → test from ≡ b → Outcome (Passed test) (suc from) to (first_of test count (suc from))
        → Outcome (Passed test) from to (elim b [ true ↦ some from | false ↦ first_of test count (suc from) ])
    go true passed later =
        found
        {x = from}
        (record {
          low = omega arith;
          high = omega arith;
          holds = rw passed tt;
          first = λ y low less t. omega arith;
        })
    go false failed later =
        widen from (omega arith)
        (λ y low less t. let same : y ≡ from = omega arith in rw (same, failed) at t)
        later

-- what the least number from `from` to `to` is
pub least_outcome : (test : ℕ → Bool) (from to : ℕ) → Outcome (Passed test) from to (least test from to)
unfolding least
least_outcome test from to = first_outcome test (suc to - from) from to refl

-- an answer is the one of `least` exactly when it tells what is so
pub least_is : (test : ℕ → Bool) (from to : ℕ) (o : Option ℕ)
    → (least test from to ≡ o) ↔ Outcome (Passed test) from to o
least_is test from to o =
    let outcome = least_outcome test from to in
    (λ e. rw e at outcome, outcome_unique outcome)
