-- The answer to a sound list is its literal reading, and no other answer is.
use Prim.Native.Nat.{ℕ, zero, suc, ◌≤◌, ◌<◌}
use native.Mathlib.Omega.{arith}
use native.Mathlib.Decide.{ℕ_discrete}
use mathlib.Core.Bool.{Bool, true, false}
use mathlib.Core.Path.{◌≡◌, refl, ap, sym, subst, subst⁻¹, ◌∙◌}
use mathlib.Core.Logic.{◌⊎◌, inl, inr, ⊎_elim}
use mathlib.Core.List.{List, [], ◌∷◌}
use mathlib.Core.Option.{Option, none, some}
use lib.Dec.{eqb}
use lib.ListN.{length, get_or}
use borrow.Author.Tests.{eq-eqb, ne_eqb, eqb-true}
use Rattle.laws.proofs.Tests.{not_one}
use Rattle.quantities.specs.Row.{cost, deadline}
use Rattle.quantities.specs.Checks.{SoundList, list_fault}
use Rattle.quantities.specs.Paper.{fault_paper}
use Rattle.quantities.specs.declared.Row.{Row}
use Rattle.quantities.specs.declared.Fault.{Fault}
use Rattle.quantities.proofs.Sound.{sound_list_means}
use Rattle.windows.specs.declared.Answer.TheVariants.{Shown, NotShown, Refused}
use Rattle.windows.specs.Choice.{Bounded, bounded}
use Rattle.windows.specs.Bound.{bound_of, IsBound, NoBound, bounds_below}
use Rattle.windows.specs.Answer.{Judged, late_number, verdict, judged_after, judged, answer_paper}
use Rattle.windows.specs.Judgement.{row_of_index, above_index, AllShown, FirstNotShown, Judgement}
use Rattle.windows.proofs.Least.{least_unique}
use Rattle.windows.proofs.Bound.{window_some, window_none}

-- The walk down the rows below those above: a least window for each, down to the end or to the first row with none.
pub data Walk (M : ℕ) : List Bounded → List Row → List ℕ → Type 0 where
  over : {above : List Bounded} → Walk M above [] []
  stop : {above : List Bounded} {row : Row} {rows : List Row}
      → NoBound M above row → Walk M above (row ∷ rows) []
  on : {above : List Bounded} {row : Row} {rows : List Row} {b : ℕ} {bounds : List ℕ}
      → IsBound M above row b
      → Walk M (bounded row b ∷ above) rows bounds → Walk M above (row ∷ rows) (b ∷ bounds)

-- the bounds of a list are such a walk
pub walk : (M : ℕ) (above : List Bounded) (rows : List Row) → Walk M above rows (bounds_below M above rows)
unfolding bounds_below
walk M above [] = over
walk M above (row ∷ rows) = go (bound_of M above row) refl (λ b. walk M (bounded row b ∷ above) rows)
  where
    go : (found : Option ℕ) → bound_of M above row ≡ found
        → ((b : ℕ) → Walk M (bounded row b ∷ above) rows (bounds_below M (bounded row b ∷ above) rows))
        → Walk M above (row ∷ rows) (elim found [ none ↦ [] | some b ↦ b ∷ bounds_below M (bounded row b ∷ above) rows ])
    go none q below = stop ((window_none M (cost row) (deadline row) above).0 q)
    go (some b) q below = on ((window_some M (cost row) (deadline row) above b).0 q) (below b)

-- two walks down the same rows give the same bounds
pub walk_unique : {M : ℕ} {above : List Bounded} {rows : List Row} {a b : List ℕ}
    → Walk M above rows a → Walk M above rows b → a ≡ b
walk_unique over over = refl
walk_unique (stop p) (stop q) = refl
walk_unique (stop p) (on {b} q w) = absurd (p b q.low q.high q.holds)
walk_unique (on {b} p v) (stop q) = absurd (q b p.low p.high p.holds)
walk_unique {M} (on {above} {row} {rows} {b} p v) (on {b = c} {bounds = cs} q w) =
    let same : b ≡ c = least_unique b c p q in
    let w' : Walk M (bounded row b ∷ above) rows cs = rw same w in
    rw (same, walk_unique v w')

-- the rows above index k, where the rows begin below those above
abbrev above_on : List Bounded → List Row → List ℕ → ℕ → List Bounded
above_on above rows bounds zero = above
above_on above rows bounds (suc k) = bounded (row_of_index rows k) (get_or bounds k 0) ∷ above_on above rows bounds k

above_on_lem : (rows : List Row) (bounds : List ℕ) (k : ℕ) → above_on [] rows bounds k ≡ above_index rows bounds k
above_on_lem rows bounds zero = refl
above_on_lem rows bounds (suc k) = rw (above_on_lem rows bounds k)

-- there are as many rows above an index as it says
pub length_above : (rows : List Row) (bounds : List ℕ) (k : ℕ) → length (above_index rows bounds k) ≡ k
length_above rows bounds zero = refl
length_above rows bounds (suc k) = ap suc (length_above rows bounds k)

-- one row further down
above_next : (above : List Bounded) (row : Row) (rows : List Row) (b : ℕ) (bounds : List ℕ) (k : ℕ)
    → above_on above (row ∷ rows) (b ∷ bounds) (suc k) ≡ above_on (bounded row b ∷ above) rows bounds k
above_next above row rows b bounds zero = refl
above_next above row rows b bounds (suc k) = rw (above_next above row rows b bounds k)

-- What a walk says of each row, by its index.
abbrev LeastOn : ℕ → List Bounded → List Row → List ℕ → ℕ → Type 0
LeastOn M above rows bounds k = IsBound M (above_on above rows bounds k) (row_of_index rows k) (get_or bounds k 0)

abbrev NoneOn : ℕ → List Bounded → List Row → List ℕ → ℕ → Type 0
NoneOn M above rows bounds k = NoBound M (above_on above rows bounds k) (row_of_index rows k)

-- what is said of a row further down is said of it from one row higher up
module _ (M : ℕ) (above : List Bounded) (row : Row) (rows : List Row) (b : ℕ) (bounds : List ℕ) (k : ℕ) where
  none_higher : NoneOn M (bounded row b ∷ above) rows bounds k → NoneOn M above (row ∷ rows) (b ∷ bounds) (suc k)
  none_higher =
      subst⁻¹ (λ (up : List Bounded). NoBound M up (row_of_index rows k))
      (above_next above row rows b bounds k)

  none_lower : NoneOn M above (row ∷ rows) (b ∷ bounds) (suc k) → NoneOn M (bounded row b ∷ above) rows bounds k
  none_lower =
      subst (λ (up : List Bounded). NoBound M up (row_of_index rows k))
      (above_next above row rows b bounds k)

walk_least : {M : ℕ} {above : List Bounded} {rows : List Row} {bounds : List ℕ} → Walk M above rows bounds
    → (k : ℕ) → k < length bounds → LeastOn M above rows bounds k
walk_least over k h = absurd (omega arith)
walk_least (stop p) k h = absurd (omega arith)
walk_least (on p w) zero h = p
walk_least (on {above} {row} {rows} {b} {bounds} p w) (suc k) h = rw (above_next above row rows b bounds k) (walk_least w k (omega arith))

-- a walk ends with the last row, or at a row that has no window
pub data Ends (M : ℕ) (above : List Bounded) (rows : List Row) (bounds : List ℕ) : Type 0 where
  all : length bounds ≡ length rows → Ends M above rows bounds
  short : length bounds < length rows → NoneOn M above rows bounds (length bounds) → Ends M above rows bounds

walk_ends : {M : ℕ} {above : List Bounded} {rows : List Row} {bounds : List ℕ} → Walk M above rows bounds
    → Ends M above rows bounds
walk_ends over = all refl
walk_ends (stop p) = short (omega arith) p
walk_ends {M} (on {above} {row} {rows} {b} {bounds} p w) = go (walk_ends w)
  where
    go : Ends M (bounded row b ∷ above) rows bounds → Ends M above (row ∷ rows) (b ∷ bounds)
    go (all e) = all (ap suc e)
    go (short l n) = short (omega arith) (none_higher M above row rows b bounds (length bounds) n)

-- and what is said of each row by its index makes a walk
walk_from : (M : ℕ) (above : List Bounded) (rows : List Row) (bounds : List ℕ)
    → ((k : ℕ) → k < length bounds → LeastOn M above rows bounds k) → Ends M above rows bounds → Walk M above rows bounds
walk_from M above [] [] least ends = over
walk_from M above [] (b ∷ bounds) least (all e) = absurd (omega arith)
walk_from M above [] (b ∷ bounds) least (short l n) = absurd (omega arith)
walk_from M above (row ∷ rows) [] least (all e) = absurd (omega arith)
walk_from M above (row ∷ rows) [] least (short l n) = stop n
walk_from M above (row ∷ rows) (b ∷ bounds) least ends =
    on (least 0 (omega arith))
    (walk_from M (bounded row b ∷ above) rows bounds
    (λ k h. rw (above_next above row rows b bounds k) at (least (suc k) (omega arith)))
    (lower ends))
  where
    lower : Ends M above (row ∷ rows) (b ∷ bounds) → Ends M (bounded row b ∷ above) rows bounds
    lower (all e) = all (omega arith)
    lower (short l n) = short (omega arith) (none_lower M above row rows b bounds (length bounds) n)

-- the verdict on bounds for every row, and on fewer
pub verdict_all : (count : ℕ) (bounds : List ℕ) → length bounds ≡ count
    → verdict count bounds ≡ record { answer = Shown; bounds = bounds }
unfolding verdict
verdict_all count bounds e = rw (eq-eqb (length bounds) count e, verdict) refl

pub verdict_short : (count : ℕ) (bounds : List ℕ) → (length bounds ≡ count → ⊥)
    → verdict count bounds ≡ record { answer = NotShown late_number (suc (length bounds)); bounds = bounds }
unfolding verdict
verdict_short count bounds e = rw (ne_eqb (length bounds) count e, verdict) refl

-- how many bounds a verdict has, by its answer
pub verdict_shown : (count : ℕ) (bounds : List ℕ) → (verdict count bounds).answer ≡ Shown → length bounds ≡ count
unfolding verdict
verdict_shown count bounds = go (eqb (length bounds) count) refl
  where
    go : (t : Bool) → eqb (length bounds) count ≡ t → (verdict count bounds).answer ≡ Shown → length bounds ≡ count
    go true q e = eqb-true (length bounds) count q
    go false q e = absurd (not_one (cc (rw (q, verdict) at e)))

pub verdict_not_shown : (count number place : ℕ) (bounds : List ℕ)
    → (verdict count bounds).answer ≡ NotShown number place → suc (length bounds) ≡ place
unfolding verdict
verdict_not_shown count number place bounds = go (eqb (length bounds) count) refl
  where
    go : (t : Bool) → eqb (length bounds) count ≡ t → (verdict count bounds).answer ≡ NotShown number place
        → suc (length bounds) ≡ place
    go true q e = absurd (not_one (cc (rw (q, verdict) at e)))
    go false q e = cc (rw (q, verdict) at e)

pub verdict_not_refused : (count : ℕ) (bounds : List ℕ) (fault : Fault)
    → (verdict count bounds).answer ≡ Refused fault → ⊥
unfolding verdict
verdict_not_refused count bounds fault = go (eqb (length bounds) count) refl
  where
    go : (t : Bool) → eqb (length bounds) count ≡ t → (verdict count bounds).answer ≡ Refused fault → ⊥
    go true q e = not_one (cc (rw (q, verdict) at e))
    go false q e = not_one (cc (rw (q, verdict) at e))

-- the place that a verdict names is at most one past the bounds
pub verdict_place : (count : ℕ) (bounds : List ℕ)
    → (answer_paper (verdict count bounds).answer).place ≤ suc (length bounds)
unfolding answer_paper fault_paper
verdict_place count bounds =
    elim (ℕ_discrete (length bounds) count) [
      | yes e ↦ rw (verdict_all count bounds e) (omega arith)
      | no e ↦ rw (verdict_short count bounds e) (omega arith)
    ]

-- the bounds of a walk with their verdict are a judgement
verdict_means : (M : ℕ) (rows : List Row) (bounds : List ℕ) → Walk M [] rows bounds
    → Judgement M rows (verdict (length rows) bounds)
unfolding verdict answer_paper
verdict_means M rows bounds w =
    record {
      least = λ k h. rw (above_on_lem rows bounds k) at (walk_least w k h);
      ends = go (walk_ends w);
    }
  where
    go : Ends M [] rows bounds
        → AllShown rows (verdict (length rows) bounds) ⊎ FirstNotShown M rows (verdict (length rows) bounds)
    go (all e) = inl (record { says = rw (eq-eqb (length bounds) (length rows) e, verdict) refl; each = e })
    go (short l n) =
        inr
        (record {
          says = rw (ne_eqb (length bounds) (length rows) (λ e. omega arith), verdict) refl;
          on_paper = rw (ne_eqb (length bounds) (length rows) (λ e. omega arith), verdict) refl;
          stands = l;
          none = subst (λ (up : List Bounded). NoBound M up (row_of_index rows (length bounds))) (above_on_lem rows bounds (length bounds)) n;
        })

-- the answer to a faulty list is its fault, with no bounds
pub judged_faulty : (M : ℕ) (rows : List Row) (fault : Fault) → list_fault M rows ≡ some fault
    → judged M rows ≡ record { answer = Refused fault; bounds = [] }
unfolding judged judged_after
judged_faulty M rows fault e = rw e

-- the answer to a sound list is the verdict on its bounds
pub judged_sound : (M : ℕ) (rows : List Row) → SoundList M rows
    → judged M rows ≡ verdict (length rows) (bounds_below M [] rows)
unfolding judged judged_after
judged_sound M rows sound = rw ((sound_list_means M rows).1 sound)

-- The answer to a sound list reads as its judgement.
pub judged_means : (M : ℕ) (rows : List Row) → SoundList M rows → Judgement M rows (judged M rows)
judged_means M rows sound =
    rw (judged_sound M rows sound) (verdict_means M rows (bounds_below M [] rows) (walk M [] rows))

-- a judgement's bounds are a walk
judgement_walk : (M : ℕ) (rows : List Row) (j : Judged) → Judgement M rows j → Walk M [] rows j.bounds
judgement_walk M rows j means =
    walk_from M [] rows j.bounds (λ k h. rw (above_on_lem rows j.bounds k) (means.least k h))
    (⊎_elim (λ a. all a.each) (λ n. short n.stands (none_on n)) means.ends)
  where
    none_on : FirstNotShown M rows j → NoneOn M [] rows j.bounds (length j.bounds)
    none_on n = subst⁻¹ (λ (up : List Bounded). NoBound M up (row_of_index rows (length j.bounds))) (above_on_lem rows j.bounds (length j.bounds)) n.none

-- One outcome: no two answers to the same rows read as their judgement.
pub one_judgement : (M : ℕ) (rows : List Row) (j k : Judged) → Judgement M rows j → Judgement M rows k → j ≡ k
one_judgement M rows j k p q = same_judged (answers p.ends q.ends) bounds
  where
    bounds : j.bounds ≡ k.bounds
    bounds = walk_unique (judgement_walk M rows j p) (judgement_walk M rows k q)

    same_judged : j.answer ≡ k.answer → j.bounds ≡ k.bounds → j ≡ k
    same_judged a b = λ i. record { answer = a i; bounds = b i }

    answers : AllShown rows j ⊎ FirstNotShown M rows j → AllShown rows k ⊎ FirstNotShown M rows k → j.answer ≡ k.answer
    answers (inl a) (inl b) = a.says ∙ sym b.says
    answers (inl a) (inr b) = absurd (omega (arith, ap length bounds, a.each, b.stands))
    answers (inr a) (inl b) = absurd (omega (arith, ap length bounds, a.stands, b.each))
    answers (inr a) (inr b) = a.says ∙ ap (λ bs. NotShown late_number (suc (length bs))) bounds ∙ sym b.says
