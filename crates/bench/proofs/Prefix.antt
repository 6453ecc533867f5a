-- Serving looks at rows from the top only: the first n rows get and end what they would get and end alone.
use Prim.Native.Nat.{ℕ, zero, suc, ◌+◌, ◌-◌, ◌<◌}
use native.Mathlib.Omega.{arith}
use mathlib.Core.Path.{◌≡◌, refl, ap}
use mathlib.Core.Bool.{Bool, true, false}
use mathlib.Core.List.{List, [], ◌∷◌}
use lib.ListN.{take}
use lib.Seq.{take-nil}
use borrow.Author.Tests.{le-leb, lt-leb}
use Rattle.bench.specs.declared.RowState.{RowState}
use Rattle.bench.specs.State.{work}
use Rattle.bench.specs.Serving.{unit, units, after_units, worked, ends, finish_of, finished}
use Rattle.bench.specs.History.{finishes_to}

pub take_units : (n free : ℕ) (states : List RowState) → take n (units free states) ≡ units free (take n states)
unfolding units
take_units n free [] = simp take-nil
take_units zero free (s ∷ states) = refl
take_units (suc n) free (s ∷ states) = ap (λ us. unit free (work s) ∷ us) (take_units n (free - unit free (work s)) states)

pub take_worked : (n : ℕ) (us : List ℕ) (states : List RowState) → take n (worked us states) ≡ worked (take n us) (take n states)
unfolding worked
take_worked zero us states = refl
take_worked (suc n) [] states = refl
take_worked (suc n) (u ∷ us) [] = refl
take_worked (suc n) (u ∷ us) (s ∷ states) = ap (λ ss. after_units u s ∷ ss) (take_worked n us states)

-- polls of rows below place k are none of the rows down to k
finishes_past : (k t place : ℕ) → k < place → (us : List ℕ) (states : List RowState) → finishes_to k (finished t place us states) ≡ []
unfolding finished finishes_to finish_of
finishes_past k t place h [] states = refl
finishes_past k t place h (u ∷ us) [] = refl
finishes_past k t place h (u ∷ us) (s ∷ states) = go (ends u s) refl (finishes_past k t (suc place) (omega arith) us states)
  where
    go : (b : Bool) → ends u s ≡ b → finishes_to k (finished t (suc place) us states) ≡ [] → finishes_to k (finished t place (u ∷ us) (s ∷ states)) ≡ []
    go true q rest = rw (finished, q, finishes_to, lt-leb place k h) rest
    go false q rest = rw (finished, q) rest

pub take_finished : (k t j n : ℕ) → j + n ≡ k → (us : List ℕ) (states : List RowState)
    → finishes_to k (finished t (suc j) us states) ≡ finished t (suc j) (take n us) (take n states)
unfolding finished finishes_to finish_of
take_finished k t j zero e us states = finishes_past k t (suc j) (omega arith) us states
take_finished k t j (suc n) e [] states = refl
take_finished k t j (suc n) e (u ∷ us) [] = refl
take_finished k t j (suc n) e (u ∷ us) (s ∷ states) = go (ends u s) refl (take_finished k t (suc j) n (omega arith) us states)
  where
    go : (b : Bool) → ends u s ≡ b → finishes_to k (finished t (suc (suc j)) us states) ≡ finished t (suc (suc j)) (take n us) (take n states)
        → finishes_to k (finished t (suc j) (u ∷ us) (s ∷ states)) ≡ finished t (suc j) (u ∷ take n us) (s ∷ take n states)
    go true q rest = rw (finished, q, finishes_to, le-leb (suc j) k (omega arith), rest)
    go false q rest = rw (finished, q, rest)
