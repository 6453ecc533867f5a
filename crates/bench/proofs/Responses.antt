-- What a tick's answer lists: the rows that got their last unit in it and no other, each with the ticks since its release.
use Prim.Native.Nat.{ℕ, zero, suc, ◌+◌, ◌-◌, ◌≤◌, ◌<◌}
use native.Mathlib.Decide.{dec_le}
use native.Mathlib.Nat.{add-zero}
use native.Mathlib.Omega.{arith}
use mathlib.Core.Logic.{inl, inr}
use mathlib.Core.Path.{◌≡◌, refl, sym}
use mathlib.Core.Bool.{Bool, true, false}
use mathlib.Core.List.{List, [], ◌∷◌}
use lib.Dec.{eqb, ltb}
use lib.ListN.{length, get_or, take, length-take, get_or-eq_default}
use borrow.Author.Tests.{ltb-true, eqb-true, lt-ltb, eq-eqb}
use Rattle.laws.specs.Each.{Each}
use Rattle.laws.specs.Member.{Member}
use Rattle.laws.proofs.Tests.{and_true}
use Rattle.bench.specs.declared.RowState.{RowState}
use Rattle.bench.specs.declared.Bench.{Bench}
use Rattle.bench.specs.declared.Finish.{Finish}
use Rattle.bench.specs.State.{idle, work, rows, state_at}
use Rattle.bench.specs.Serving.{ends, since, finish_of, finished}
use Rattle.bench.specs.Step.{served, taken}
use Rattle.bench.specs.TickRule.{RisingPlaces}
use Rattle.bench.proofs.Units.{unit_le_one}
use Rattle.bench.proofs.Serving.{length_units}
use Rattle.bench.proofs.Balance.{served_le_work}

-- A poll ended, at an instant, of a row that stands from a place on, with these units and states.
pub record Listed (instant place : ℕ) (us : List ℕ) (states : List RowState) (poll : Finish) : Type 0 where
  pub index : ℕ
  pub within : index < length us
  pub at_place : poll.place ≡ place + index
  pub got : 0 < get_or us index 0
  pub done : work (get_or states index idle) - get_or us index 0 ≡ 0
  pub response : poll.response.0 ≡ since instant (get_or states index idle).last

-- one place lower
listed_below : (instant place u : ℕ) (us : List ℕ) (s : RowState) (states : List RowState) (poll : Finish)
    → Listed instant (suc place) us states poll → Listed instant place (u ∷ us) (s ∷ states) poll
listed_below instant place u us s states poll l =
    record {
      index = suc l.index;
      within = omega (arith, l.within);
      at_place = omega (arith, l.at_place);
      got = l.got;
      done = l.done;
      response = l.response;
    }

each_below : (instant place u : ℕ) (us : List ℕ) (s : RowState) (states : List RowState) (polls : List Finish)
    → Each (Listed instant (suc place) us states) polls → Each (Listed instant place (u ∷ us) (s ∷ states)) polls
each_below instant place u us s states [] e = tt
each_below instant place u us s states (poll ∷ polls) (l, e) =
    (listed_below instant place u us s states poll l, each_below instant place u us s states polls e)

-- each poll of the list is so
pub each_listed : (instant place : ℕ) (us : List ℕ) (states : List RowState) → Each (Listed instant place us states) (finished instant place us states)
unfolding finished finish_of ends
each_listed instant place [] states = tt
each_listed instant place (u ∷ us) [] = tt
each_listed instant place (u ∷ us) (s ∷ states) = go (ends u s) refl (each_below instant place u us s states (finished instant (suc place) us states) (each_listed instant (suc place) us states))
  where
    go : (t : Bool) → ends u s ≡ t → Each (Listed instant place (u ∷ us) (s ∷ states)) (finished instant (suc place) us states)
        → Each (Listed instant place (u ∷ us) (s ∷ states)) (elim t [ true ↦ finish_of instant place s ∷ finished instant (suc place) us states | false ↦ finished instant (suc place) us states ])
    go true q rest =
        let (g, d) = and_true (ltb 0 u) (eqb (work s - u) 0) q in (
          record {
            index = 0;
            within = omega arith;
            at_place = sym (add-zero place);
            got = ltb-true 0 u g;
            done = eqb-true (work s - u) 0 d;
            response = refl;
          },
          rest,
        )
    go false q rest = rest

-- A poll that ended in a tick of a bench: of one of its rows, which got a unit and had one left.
pub record Ends (b : Bench) (poll : Finish) : Type 0 where
  pub low : 0 < poll.place
  pub high : poll.place ≤ length (rows b)
  pub got : get_or (served b) (poll.place - 1) 0 ≡ 1
  pub last_unit : work (state_at b poll.place) ≡ 1
  pub response : poll.response.0 ≡ since (suc b.now.0) (state_at b poll.place).last

listed_ends : (b : Bench) (poll : Finish) → Listed (suc b.now.0) 1 (served b) b.states poll → Ends b poll
unfolding served
listed_ends b poll l =
    let i : poll.place - 1 ≡ l.index = omega (arith, l.at_place) in
    let n = length_units b.cores (take (length (rows b)) b.states) in
    let m = length-take (length (rows b)) b.states in
    let high : poll.place ≤ length (rows b) = omega (arith, l.within, l.at_place) in
    let low : 0 < poll.place = omega (arith, l.at_place) in
    let few = unit_le_one b.cores l.index (take (length (rows b)) b.states) in
    let some_work = rw i at (served_le_work b poll.place low high) in
    record {
      low = low;
      high = high;
      got = rw i (omega (arith, l.got));
      last_unit = rw i (omega (arith, l.got, l.done));
      response = rw i l.response;
    }

pub each_ends : (b : Bench) → Each (Ends b) (taken b).finishes
unfolding taken
each_ends b = all (finished (suc b.now.0) 1 (served b) b.states) (each_listed (suc b.now.0) 1 (served b) b.states)
  where
    all : (polls : List Finish) → Each (Listed (suc b.now.0) 1 (served b) b.states) polls → Each (Ends b) polls
    all [] e = tt
    all (poll ∷ polls) (l, e) = (listed_ends b poll l, all polls e)

-- The other way round: the poll of a row that got its last unit is in the list.
ends_last : (u : ℕ) (s : RowState) → 0 < u → work s - u ≡ 0 → ends u s ≡ true
unfolding ends
ends_last u s got done = rw (lt-ltb 0 u got, eq-eqb (work s - u) 0 done)

pub last_listed : (instant place : ℕ) (us : List ℕ) (states : List RowState) (i : ℕ) → i < length states
    → 0 < get_or us i 0 → work (get_or states i idle) - get_or us i 0 ≡ 0
    → Member (finish_of instant (place + i) (get_or states i idle)) (finished instant place us states)
unfolding finished
last_listed instant place [] states i l got done = absurd (omega arith)
last_listed instant place (u ∷ us) [] i l got done = absurd (omega arith)
last_listed instant place (u ∷ us) (s ∷ states) zero l got done =
    rw (add-zero, ends_last u s got done, finished) (inl refl)
last_listed instant place (u ∷ us) (s ∷ states) (suc i) l got done =
    let same : suc place + i ≡ place + suc i = omega arith in
    go (ends u s) (rw same at (last_listed instant (suc place) us states i (omega arith) got done))
  where
    go : (t : Bool) → Member (finish_of instant (place + suc i) (get_or states i idle)) (finished instant (suc place) us states)
        → Member (finish_of instant (place + suc i) (get_or states i idle))
        (elim t [ true ↦ finish_of instant place s ∷ finished instant (suc place) us states | false ↦ finished instant (suc place) us states ])
    go true m = inr m
    go false m = m

-- a place past the states gets no unit
served_within : (b : Bench) (i : ℕ) → 0 < get_or (served b) i 0 → i < length b.states
unfolding served
served_within b i got = go (dec_le (length (served b)) i)
  where
    go : Dec (length (served b) ≤ i) → i < length b.states
    go (yes h) = absurd (omega (arith, get_or-eq_default (served b) 0 h))
    go (no h) =
        let n = length_units b.cores (take (length (rows b)) b.states) in
        let m = length-take (length (rows b)) b.states in
        omega arith

-- A row that got a unit in a tick and had one left has ended its poll, and the answer lists it with the ticks since its release.
pub last_unit_ends : (b : Bench) (place : ℕ) → 0 < place → get_or (served b) (place - 1) 0 ≡ 1 → work (state_at b place) ≡ 1
    → Member (finish_of (suc b.now.0) place (state_at b place)) (taken b).finishes
unfolding taken
last_unit_ends b place low got one =
    let here : 1 + (place - 1) ≡ place = omega arith in
    let within = served_within b (place - 1) (omega arith) in
    rw here at (last_listed (suc b.now.0) 1 (served b) b.states (place - 1) within (omega arith) (omega arith))

-- The polls are listed in rising place.
rising_from_lower : (place : ℕ) (polls : List Finish) → RisingPlaces (suc place) polls → RisingPlaces place polls
rising_from_lower place [] r = tt
rising_from_lower place (poll ∷ polls) (l, r) = (omega arith, r)

pub rising_finished : (instant place : ℕ) (us : List ℕ) (states : List RowState) → RisingPlaces place (finished instant place us states)
unfolding finished finish_of
rising_finished instant place [] states = tt
rising_finished instant place (u ∷ us) [] = tt
rising_finished instant place (u ∷ us) (s ∷ states) = go (ends u s) (rising_finished instant (suc place) us states)
  where
    go : (t : Bool) → RisingPlaces (suc place) (finished instant (suc place) us states)
        → RisingPlaces place (elim t [ true ↦ finish_of instant place s ∷ finished instant (suc place) us states | false ↦ finished instant (suc place) us states ])
    go true r = (omega arith, r)
    go false r = rising_from_lower place (finished instant (suc place) us states) r
