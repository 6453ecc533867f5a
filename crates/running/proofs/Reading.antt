-- What the invariant says of a row by its index, and of the polls that end in a tick.
use Prim.Native.Nat.{ℕ, zero, suc, ◌+◌, ◌-◌, ◌≤◌, ◌<◌}
use mathlib.Core.Path.{◌≡◌, refl}
use mathlib.Core.Bool.{Bool, true, false, ◌&&◌}
use mathlib.Core.List.{List, [], ◌∷◌}
use native.Mathlib.Omega.{arith}
use lib.Dec.{eqb, ltb}
use lib.ListN.{length, get_or, take}
use borrow.Author.Tests.{ltb-true}
use Rattle.std.specs.Prelude.{Option, None, Some}
use Rattle.laws.specs.Each.{Each}
use Rattle.laws.proofs.Lists.{each_map}
use Rattle.quantities.specs.declared.Row.{Row}
use Rattle.quantities.specs.Row.{no_row}
use Rattle.windows.specs.Choice.{Bounded, bounded, InRange}
use Rattle.quantities.specs.declared.Instant.{Instant}
use Rattle.bench.specs.declared.RowState.{RowState}
use Rattle.bench.specs.declared.Finish.{Finish}
use Rattle.bench.specs.State.{work, idle}
use Rattle.bench.specs.Serving.{unit, units, ends, since, finish_of, finished}
use Rattle.bench.proofs.Units.{unit_facts}
use Rattle.running.proofs.State.{instant_of, ever, came}
use Rattle.running.proofs.Invariant.{Inv, done, next}
use Rattle.running.proofs.Tick.{in_time}

-- What is known of a row with a bound.
pub record RowFacts (now : ℕ) (row : Row) (bound : ℕ) (st : RowState) : Type 0 where
  pub range : InRange (bounded row bound)
  pub known : 0 < work st → ever st ≡ true
  pub early : 0 < work st → now < came st + bound

pub inv_at : {M now : ℕ} {above : List Bounded} {up : List RowState} {rows : List Row} {bounds : List ℕ}
    {states : List RowState}
    → Inv M now above up rows bounds states → (k : ℕ) → k < length bounds
    → RowFacts now (get_or rows k no_row) (get_or bounds k 0) (get_or states k idle)
inv_at done k h = absurd (omega arith)
inv_at (next shown kept window below) zero h =
    record { range = shown.range; known = kept.known; early = in_time shown window }
inv_at (next shown kept window below) (suc k) h = inv_at below k (omega arith)

-- a poll that ended at this place or below, of a row with one of these bounds, was in time
abbrev pub Ended : (place : ℕ) → List ℕ → Finish → Type 0
Ended place bounds poll =
    (place ≤ poll.place)
    × ((k : ℕ) → k < length bounds → poll.place ≡ place + k → poll.response.0 ≤ get_or bounds k 0)

-- where there are no bounds, only the places matter
pub ended_unbounded : (instant place : ℕ) (us : List ℕ) (states : List RowState)
    → Each (λ (poll : Finish). place ≤ poll.place) (finished instant place us states)
unfolding finished finish_of
ended_unbounded instant place [] states = tt
ended_unbounded instant place (u ∷ us) [] = tt
ended_unbounded instant place (u ∷ us) (st ∷ states) =
    let below = ended_unbounded instant (suc place) us states in
    go (ends u st) (each_map (λ poll h. omega arith) (finished instant (suc place) us states) below)
  where
    go : (e : Bool) → Each (λ (poll : Finish). place ≤ poll.place) (finished instant (suc place) us states)
        → Each (λ (poll : Finish). place ≤ poll.place)
        (elim e [
          | true ↦ finish_of instant place st ∷ finished instant (suc place) us states
          | false ↦ finished instant (suc place) us states
        ])
    go true below = (omega arith, below)
    go false below = below

-- a poll below stands one place lower
pub ended_below : (place r : ℕ) (bounds : List ℕ) (poll : Finish) → Ended (suc place) bounds poll
    → Ended place (r ∷ bounds) poll
ended_below place r bounds poll (low, each) = (omega arith, at)
  where
    at : (k : ℕ) → k < suc (length bounds) → poll.place ≡ place + k
        → poll.response.0 ≤ get_or (r ∷ bounds) k 0
    at zero h e = absurd (omega arith)
    at (suc k) h e = each k (omega arith) (omega arith)

-- the ticks since a release that was less than the bound ago before this tick
since_le : (now bound : ℕ) (last : Option Instant) → now < instant_of last + bound → since (suc now) last ≤ bound
unfolding since
since_le now bound None h = omega arith
since_le now bound (Some at) h = omega arith

-- the row itself ended its poll
pub ended_here : (now place free r : ℕ) (bounds : List ℕ) (st : RowState) → (0 < work st → now < came st + r)
    → ends (unit free (work st)) st ≡ true → Ended place (r ∷ bounds) (finish_of (suc now) place st)
unfolding ends finish_of
ended_here now place free r bounds st early ended = (omega arith, at)
  where
    both : (a c : Bool) → (a && c) ≡ true → a ≡ true
    both true c e = refl
    both false c e = e

    at : (k : ℕ) → k < suc (length bounds) → place ≡ place + k
        → since (suc now) st.last ≤ get_or (r ∷ bounds) k 0
    at zero h e =
        let got = unit_facts free (work st) in
        let u = unit free (work st) in
        let served = ltb-true 0 u (both (ltb 0 u) (eqb (work st - u) 0) ended) in
        since_le now r st.last (early (omega arith))
    at (suc k) h e = absurd (omega arith)

-- Every poll that ends in a tick was in time.
pub ended_in_time : {M now : ℕ} {above : List Bounded} {up : List RowState} {rows : List Row}
    {bounds : List ℕ} {states : List RowState}
    → Inv M now above up rows bounds states → (place free : ℕ)
    → Each (Ended place bounds) (finished (suc now) place (units free (take (length rows) states)) states)
unfolding finished units
ended_in_time {now} {rows} {states} done place free =
    each_map (λ poll low. (low, λ k h e. absurd (omega arith)))
    (finished (suc now) place (units free (take (length rows) states)) states)
    (ended_unbounded (suc now) place (units free (take (length rows) states)) states)
ended_in_time {now} (next {rows} {r} {bounds} {st} {states} shown kept window below) place free =
    go (ends u st) refl
    (each_map (ended_below place r bounds) polls (ended_in_time below (suc place) (free - u)))
  where
    u : ℕ
    u = unit free (work st)

    polls : List Finish
    polls = finished (suc now) (suc place) (units (free - u) (take (length rows) states)) states

    go : (e : Bool) → ends u st ≡ e → Each (Ended place (r ∷ bounds)) polls
        → Each (Ended place (r ∷ bounds))
        (elim e [ true ↦ finish_of (suc now) place st ∷ polls | false ↦ polls ])
    go true e rest = (ended_here now place free r bounds st (in_time shown window) e, rest)
    go false e rest = rest
