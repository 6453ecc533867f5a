-- Laws of serving, one row after the other: a turn of the code's loop is a step down the lists.
use Prim.Native.Nat.{ℕ, suc, ◌+◌, ◌-◌, ◌≤◌, ◌<◌}
use native.Mathlib.Numerals.{add-one}
use native.Mathlib.Omega.{arith}
use mathlib.Core.Path.{◌≡◌, refl, sym, ap}
use mathlib.Core.Bool.{Bool, true, false}
use mathlib.Core.List.{List, [], ◌∷◌, ◌++◌, append_assoc}
use lib.ListN.{length, get_or, take, drop, set, length-take, take-append-drop}
use lib.Seq.{drop-cons, drop-set-lt, take-suc-set}
use Rattle.bench.specs.declared.RowState.{RowState}
use Rattle.bench.specs.declared.Finish.{Finish}
use Rattle.bench.specs.declared.Finishes.{Finishes}
use Rattle.bench.specs.declared.Turn.{Turn}
use Rattle.bench.specs.State.{idle, work}
use Rattle.bench.specs.Serving.{unit, units, worked, ends, finish_of, finished, turn_of}
use Rattle.quantities.specs.Limits.{row_capacity}
use Rattle.bench.specs.Ended.{finishes_of, noted}
use Rattle.bench.proofs.Ended.{noted_all, noted_all_lem}

-- the states after serving `n` rows with this many cores free
abbrev pub served_states : (free n : ℕ) → List RowState → List RowState
served_states free n states = worked (units free (take n states)) states

-- the polls that end when `n` rows from a place on are served
abbrev pub ended_polls : (instant place free n : ℕ) → List RowState → List Finish
ended_polls instant place free n states = finished instant place (units free (take n states)) states

-- the first of the rows, then the others
served_cons : (free n : ℕ) (s : RowState) (rest : List RowState)
    → served_states free (suc n) (s ∷ rest) ≡ (turn_of free s).state ∷ served_states (turn_of free s).free n rest
unfolding units worked turn_of
served_cons free n s rest = refl

noted_cons : (instant place free n : ℕ) (s : RowState) (rest : List RowState) (f : Finishes)
    → noted_all f (ended_polls instant place free (suc n) (s ∷ rest))
    ≡ noted_all (noted f (turn_of free s).ends (finish_of instant place s)) (ended_polls instant (suc place) (turn_of free s).free n rest)
unfolding units finished turn_of noted_all noted
noted_cons instant place free n s rest f = go (ends (unit free (work s)) s) refl
  where
    go : (b : Bool) → ends (unit free (work s)) s ≡ b
        → noted_all f (elim (ends (unit free (work s)) s) [ true ↦ finish_of instant place s ∷ ended_polls instant (suc place) (turn_of free s).free n rest | false ↦ ended_polls instant (suc place) (turn_of free s).free n rest ])
        ≡ noted_all (noted f (ends (unit free (work s)) s) (finish_of instant place s)) (ended_polls instant (suc place) (turn_of free s).free n rest)
    go true e = rw e
    go false e = rw e

-- One turn of the loop at index i, over the first `count` of the states.
module _ (count free i : ℕ) (states : List RowState) (h : i < count) (l : i < length states) where
  abbrev pub turn : Turn
  turn = turn_of free (get_or states i idle)

  pub served_turn : (take i states ++ served_states free (count - i) (drop i states))
      ≡ take (i + 1) (set states i turn.state) ++ served_states turn.free (count - (i + 1)) (drop (i + 1) (set states i turn.state))
  served_turn =
      let n : count - i ≡ suc (count - suc i) = omega arith in
      rw (add-one, n, drop-cons states i idle l, take-suc-set states i (turn_of free (get_or states i idle)).state l, drop-set-lt (suc i) states i (turn_of free (get_or states i idle)).state (omega arith), served_cons)
      (sym (append_assoc (take i states) ((turn_of free (get_or states i idle)).state ∷ []) _))

  pub noted_turn : (instant : ℕ) (f : Finishes)
      → noted_all f (ended_polls instant (suc i) free (count - i) (drop i states))
      ≡ noted_all (noted f turn.ends (finish_of instant (i + 1) (get_or states i idle)))
      (ended_polls instant (suc (i + 1)) turn.free (count - (i + 1)) (drop (i + 1) (set states i turn.state)))
  noted_turn instant f =
      let n : count - i ≡ suc (count - suc i) = omega arith in
      rw (add-one, n, drop-cons states i idle l, drop-set-lt (suc i) states i (turn_of free (get_or states i idle)).state (omega arith))
      (noted_cons instant (suc i) free (count - suc i) (get_or states i idle) (drop (suc i) states) f)

-- no more polls end than rows are served
pub finished_few : (instant place : ℕ) (us : List ℕ) (states : List RowState) → length (finished instant place us states) ≤ length us
unfolding finished
finished_few instant place [] states = omega arith
finished_few instant place (u ∷ us) [] = omega arith
finished_few instant place (u ∷ us) (s ∷ states) = go (ends u s) (finished_few instant (suc place) us states)
  where
    go : (b : Bool) → length (finished instant (suc place) us states) ≤ length us
        → length {A = Finish} (elim b [ true ↦ finish_of instant place s ∷ finished instant (suc place) us states | false ↦ finished instant (suc place) us states ]) ≤ suc (length us)
    go true ih = omega arith
    go false ih = omega arith

pub length_units : (free : ℕ) (states : List RowState) → length (units free states) ≡ length states
unfolding units
length_units free [] = refl
length_units free (s ∷ states) = ap suc (length_units (free - unit free (work s)) states)

-- The loop at its end: nothing is left to serve, and the polls noted are the list of those that ended.
pub served_end : (free i : ℕ) (states : List RowState) → take i states ++ served_states free 0 (drop i states) ≡ states
unfolding units worked
served_end free i states = take-append-drop i states

pub noted_end : (instant place free : ℕ) (states : List RowState) (f : Finishes) → noted_all f (ended_polls instant place free 0 states) ≡ f
unfolding units finished noted_all
noted_end instant place free states f = refl

pub ended_all : (instant free count : ℕ) (states : List RowState) → count ≤ row_capacity
    → noted_all (finishes_of []) (ended_polls instant 1 free count states) ≡ finishes_of (ended_polls instant 1 free count states)
ended_all instant free count states h =
    let few = finished_few instant 1 (units free (take count states)) states in
    noted_all_lem [] (ended_polls instant 1 free count states) (omega (arith, few, length_units free (take count states), length-take count states))
