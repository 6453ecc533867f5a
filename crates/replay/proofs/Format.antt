-- Laws of calls as bytes: what the first six bytes of a list say, and the calls after them.
use Rattle.std.specs.Prelude.{None, Some}
use Prim.Native.Nat.{ℕ, ◌+◌, ◌*◌, ◌≤◌, ◌<◌}
use native.Mathlib.Omega.{arith}
use mathlib.Core.Path.{◌≡◌, refl}
use mathlib.Core.Bool.{false}
use mathlib.Core.List.{List, [], ◌∷◌}
use lib.ListN.{length, get_or, drop}
use borrow.Author.Tests.{eq-eqb, ne_eqb}
use Rattle.laws.proofs.Tests.{not_one}
use Rattle.bench.specs.declared.Request.{Request}
use Rattle.bench.specs.declared.Request.TheVariants.{Release, Tick}
use Rattle.replay.specs.Format.{request_of, request_in}
use Rattle.replay.specs.Replay.{requests_in}

-- fewer than six bytes are no call
pub request_short : (bytes : List ℕ) → length bytes < 6 → request_in bytes ≡ None
unfolding request_in
request_short [] h = refl
request_short (a ∷ []) h = refl
request_short (a ∷ b ∷ []) h = refl
request_short (a ∷ b ∷ c ∷ []) h = refl
request_short (a ∷ b ∷ c ∷ d ∷ []) h = refl
request_short (a ∷ b ∷ c ∷ d ∷ e ∷ []) h = refl
request_short (a ∷ b ∷ c ∷ d ∷ e ∷ f ∷ rest) h = absurd (omega arith)

-- where no call stands, the requests end
pub requests_stop : (bytes : List ℕ) → 0 < length bytes → request_in bytes ≡ None → requests_in bytes ≡ record { list = []; whole = false }
unfolding request_in requests_in
requests_stop [] h e = absurd (omega arith)
requests_stop (a ∷ []) h e = refl
requests_stop (a ∷ b ∷ []) h e = refl
requests_stop (a ∷ b ∷ c ∷ []) h e = refl
requests_stop (a ∷ b ∷ c ∷ d ∷ []) h e = refl
requests_stop (a ∷ b ∷ c ∷ d ∷ e' ∷ []) h e = refl
requests_stop (a ∷ b ∷ c ∷ d ∷ e' ∷ f ∷ rest) h e = rw e

-- where one stands, it is six bytes long and the others follow
pub requests_next : (bytes : List ℕ) (request : Request) → request_in bytes ≡ Some request
    → (6 ≤ length bytes) × (requests_in bytes ≡ record { list = request ∷ (requests_in (drop 6 bytes)).list; whole = (requests_in (drop 6 bytes)).whole })
unfolding request_in requests_in
requests_next [] r e = absurd (not_one cc)
requests_next (a ∷ []) r e = absurd (not_one cc)
requests_next (a ∷ b ∷ []) r e = absurd (not_one cc)
requests_next (a ∷ b ∷ c ∷ []) r e = absurd (not_one cc)
requests_next (a ∷ b ∷ c ∷ d ∷ []) r e = absurd (not_one cc)
requests_next (a ∷ b ∷ c ∷ d ∷ e' ∷ []) r e = absurd (not_one cc)
requests_next (a ∷ b ∷ c ∷ d ∷ e' ∷ f ∷ rest) r e = (omega arith, rw e)

-- the call in the first six bytes, by those bytes
pub request_first : (bytes : List ℕ) → 6 ≤ length bytes
    → request_in bytes ≡ request_of (get_or bytes 0 0) (get_or bytes 1 0) (get_or bytes 2 0) (get_or bytes 3 0) (get_or bytes 4 0) (get_or bytes 5 0)
unfolding request_in
request_first [] h = absurd (omega arith)
request_first (a ∷ []) h = absurd (omega arith)
request_first (a ∷ b ∷ []) h = absurd (omega arith)
request_first (a ∷ b ∷ c ∷ []) h = absurd (omega arith)
request_first (a ∷ b ∷ c ∷ d ∷ []) h = absurd (omega arith)
request_first (a ∷ b ∷ c ∷ d ∷ e ∷ []) h = absurd (omega arith)
request_first (a ∷ b ∷ c ∷ d ∷ e ∷ f ∷ rest) h = refl

module _ (bytes : List ℕ) (h : 6 ≤ length bytes) where
  pub request_tick : get_or bytes 0 0 ≡ 2 → request_in bytes ≡ Some Tick
  unfolding request_of
  request_tick e = rw (request_first bytes h, request_of, eq-eqb (get_or bytes 0 0) 2 e)

  pub request_release : get_or bytes 0 0 ≡ 1 → (place demand : ℕ) → place ≡ get_or bytes 1 0
      → demand ≡ get_or bytes 2 0 * 16777216 + get_or bytes 3 0 * 65536 + get_or bytes 4 0 * 256 + get_or bytes 5 0
      → request_in bytes ≡ Some (Release place (record { 0 = demand }))
  unfolding request_of
  request_release e place demand ep ed =
      let four : ((get_or bytes 2 0 * 256 + get_or bytes 3 0) * 256 + get_or bytes 4 0) * 256 + get_or bytes 5 0 ≡ demand = omega arith in
      rw (request_first bytes h, request_of, ne_eqb (get_or bytes 0 0) 2 (omega arith), eq-eqb (get_or bytes 0 0) 1 e, four, ← ep)

  pub request_unknown : (get_or bytes 0 0 ≡ 1 → ⊥) → (get_or bytes 0 0 ≡ 2 → ⊥) → request_in bytes ≡ None
  unfolding request_of
  request_unknown m n = rw (request_first bytes h, request_of, ne_eqb (get_or bytes 0 0) 2 n, ne_eqb (get_or bytes 0 0) 1 m)

pub ruleset request_cases = (request_short, request_tick, request_release, request_unknown)
