-- The release rule and the tick rule each leave one step: they say all there is to say of it.
use Prim.Native.Nat.{ℕ, suc, ◌-◌, ◌≤◌, ◌<◌}
use native.Mathlib.Decide.{dec_le}
use native.Mathlib.Omega.{arith}
use mathlib.Core.Logic.{inl, inr, ⊎_elim}
use mathlib.Core.Path.{◌≡◌, refl, sym, ap, ◌∙◌}
use mathlib.Core.Bool.{Bool, true, false}
use mathlib.Core.List.{List, [], ◌∷◌}
use lib.Dec.{eqb}
use lib.ListN.{length, get_or}
use lib.Seq.{ext_get_or}
use borrow.Author.Tests.{eqb-true, eqb-false}
use Rattle.laws.specs.Member.{Member}
use Rattle.laws.proofs.Lists.{each_member}
use Rattle.quantities.specs.declared.Table.{Table}
use Rattle.bench.specs.declared.RowState.{RowState}
use Rattle.bench.specs.declared.Bench.{Bench}
use Rattle.bench.specs.declared.Finish.{Finish}
use Rattle.bench.specs.Refusal.{Outcome}
use Rattle.bench.specs.State.{idle, state_at}
use Rattle.bench.specs.Step.{Step, served}
use Rattle.bench.specs.TickRule.{Gets, PollEnds, RisingPlaces}
use Rattle.bench.specs.Rules.{OneRelease, OneTick}
use Rattle.bench.proofs.TickRule.{gets_one, has_got}

-- Lists of as many states that agree at each place are the same.
same_states : (one other : Bench) → length one.states ≡ length other.states
    → ((place : ℕ) → 1 ≤ place → state_at one place ≡ state_at other place) → one.states ≡ other.states
same_states one other n agree = ext_get_or idle one.states other.states n at
  where
    at : (i : ℕ) → i < length one.states → get_or one.states i idle ≡ get_or other.states i idle
    at i h = let e : suc i - 1 ≡ i = omega arith in rw e at (agree (suc i) (omega arith))

-- RisingPlaces lists with the same polls are the same.
member_high : (place : ℕ) (poll : Finish) (polls : List Finish) → RisingPlaces place polls → Member poll polls
    → place ≤ poll.place
member_high place poll [] r m = absurd m
member_high place poll (x ∷ xs) r m =
    ⊎_elim
    (λ (e : poll ≡ x). let k = ap (λ (z : Finish). z.place) e in omega (arith, r.0))
    (λ (t : Member poll xs). let h = member_high (suc x.place) poll xs r.1 t in omega (arith, r.0))
    m

first_same : (x y : Finish) (xs ys : List Finish) → RisingPlaces (suc x.place) xs → RisingPlaces (suc y.place) ys
    → Member x (y ∷ ys) → Member y (x ∷ xs) → x ≡ y
first_same x y xs ys r s m n =
    ⊎_elim
    (λ (e : x ≡ y). e)
    (λ (t : Member x ys).
    ⊎_elim
    (λ (e : y ≡ x). sym e)
    (λ (u : Member y xs).
    let h = member_high (suc x.place) y xs r u in
    let k = member_high (suc y.place) x ys s t in
    absurd (omega arith))
    n)
    m

rest_in : (x y : Finish) (xs ys : List Finish) → x ≡ y → RisingPlaces (suc x.place) xs
    → ((poll : Finish) → Member poll (x ∷ xs) → Member poll (y ∷ ys))
    → (poll : Finish) → Member poll xs → Member poll ys
rest_in x y xs ys same r f poll m =
    ⊎_elim
    (λ (e : poll ≡ y).
    let h = member_high (suc x.place) poll xs r m in
    let k = ap (λ (z : Finish). z.place) (e ∙ sym same) in
    absurd (omega arith))
    (λ (t : Member poll ys). t)
    (f poll (inr m))

same_polls : (place other : ℕ) (xs ys : List Finish) → RisingPlaces place xs → RisingPlaces other ys
    → ((poll : Finish) → Member poll xs → Member poll ys)
    → ((poll : Finish) → Member poll ys → Member poll xs) → xs ≡ ys
same_polls place other [] [] r s f g = refl
same_polls place other [] (y ∷ ys) r s f g = absurd (g y (inl refl))
same_polls place other (x ∷ xs) [] r s f g = absurd (f x (inl refl))
same_polls place other (x ∷ xs) (y ∷ ys) r s f g =
    let e = first_same x y xs ys r.1 s.1 (f x (inl refl)) (g y (inl refl)) in
    let down = rest_in x y xs ys e r.1 f in
    let up = rest_in y x ys xs (sym e) s.1 g in
    let t = same_polls (suc x.place) (suc y.place) xs ys r.1 s.1 down up in
    cc

-- Two benches, and two steps, with the same parts are the same.
same_bench : (one other : Bench) → one.cores ≡ other.cores → one.table ≡ other.table
    → one.now.0 ≡ other.now.0 → one.states ≡ other.states → one ≡ other
same_bench one other cores table now states =
    let same : made one.cores one.table one.now.0 one.states
    ≡ made other.cores other.table other.now.0 other.states = rw (cores, table, now, states) in
    same
  where
    made : ℕ → Table → ℕ → List RowState → Bench
    made c t n s = record { cores = c; table = t; now = record { 0 = n }; states = s }

same_step : (one other : Step) → one.outcome ≡ other.outcome → one.finishes ≡ other.finishes
    → one.bench ≡ other.bench → one ≡ other
same_step one other outcome polls bench =
    let same : made one.outcome one.finishes one.bench
    ≡ made other.outcome other.finishes other.bench = rw (outcome, polls, bench) in
    same
  where
    made : Outcome → List Finish → Bench → Step
    made o f b = record { outcome = o; finishes = f; bench = b }

-- A release: the place released has a fresh poll, every other place is as it was.
pub one_release : OneRelease
one_release b place demand one other r s =
    same_step one other
    (r.outcome ∙ sym s.outcome)
    (r.none_end ∙ sym s.none_end)
    (same_bench one.bench other.bench
    (r.board.0 ∙ sym s.board.0)
    (r.board.1 ∙ sym s.board.1)
    (ap (λ now. now.0) (r.clock ∙ sym s.clock))
    (same_states one.bench other.bench (r.as_many ∙ sym s.as_many) agree))
  where
    agree : (at : ℕ) → 1 ≤ at → state_at one.bench at ≡ state_at other.bench at
    agree at first = go (eqb at place) refl
      where
        go : (t : Bool) → eqb at place ≡ t → state_at one.bench at ≡ state_at other.bench at
        go true q = rw (eqb-true at place q) (r.poll_starts ∙ sym s.poll_starts)
        go false q =
            let away = eqb-false at place q in
            r.others at first away ∙ sym (s.others at first away)

-- A tick: a row gets a unit or not, and a poll is listed exactly where it ends.
pub one_tick : OneTick
one_tick b one other r s =
    same_step one other
    (r.outcome ∙ sym s.outcome)
    (same_polls 1 1 one.finishes other.finishes r.rising s.rising
    (λ poll m. s.listed poll (each_member (PollEnds b) poll one.finishes r.no_other m))
    (λ poll m. r.listed poll (each_member (PollEnds b) poll other.finishes s.no_other m)))
    (same_bench one.bench other.bench
    (r.board.0 ∙ sym s.board.0)
    (r.board.1 ∙ sym s.board.1)
    (r.clock ∙ sym s.clock)
    (same_states one.bench other.bench (r.as_many ∙ sym s.as_many) agree))
  where
    agree : (place : ℕ) → 1 ≤ place → state_at one.bench place ≡ state_at other.bench place
    agree place first = go (dec_le 1 (get_or (served b) (place - 1) 0))
      where
        go : Dec (1 ≤ get_or (served b) (place - 1) 0) → state_at one.bench place ≡ state_at other.bench place
        go (yes got) =
            let g = has_got b place first got in
            r.one_unit place g ∙ sym (s.one_unit place g)
        go (no none) =
            let not : Gets b place → ⊥ = λ g. omega (arith, gets_one b place g) in
            r.no_unit place first not ∙ sym (s.no_unit place first not)
