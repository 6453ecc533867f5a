-- Bounds by document 01's formulas: the answer to a list in range is what they make of it, and no other is.
use Prim.Native.Nat.{ℕ, zero, suc, ◌+◌, ◌-◌, ◌*◌, ◌/◌, ◌≤◌, ◌<◌}
use native.Mathlib.Omega.{arith}
use native.Mathlib.Nat.{div-lt_iff_lt-mul, lt_of_le_of_lt}
use mathlib.Core.Path.{◌≡◌, refl, ap, sym, subst, ◌∙◌}
use mathlib.Core.Logic.{◌↔◌, inl, inr, ⊎_elim}
use mathlib.Core.Bool.{Bool, true, false, cond}
use mathlib.Core.List.{List, [], ◌∷◌}
use lib.Dec.{eqb}
use lib.ListN.{length}
use borrow.Author.Tests.{eq-eqb, ne_eqb}
use Rattle.quantities.specs.declared.Row.{Row}
use Rattle.windows.specs.Window.{plain, carry, limit, interference}
use Rattle.windows.specs.Choice.{Bounded, loads, carriers, total, Permitted, Passes, most}
use Rattle.windows.specs.Bound.{IsBound, NoBound}
use Rattle.windows.specs.Answer.{Judged, judged}
use Rattle.windows.specs.Judgement.{above_index, AllShown, FirstNotShown, Judgement}
use Rattle.windows.proofs.Choice.{Attains, attained, total_le_most, length_loads}
use Rattle.windows.proofs.Judgement.{judged_means, one_judgement, length_above}
use Rattle.rowpages.specs.Windows.{
  works_at_most,
  row_at,
  bound_at,
  interferes,
  carry_in_rows,
  added_up,
  total_above,
  PassesTest,
  LeastWindow,
  NoWindow,
  EveryRowShown,
  FirstRowNotShown,
  JudgedBy,
  JudgedRight,
  OneJudgement,
  IsLargest,
  AddUpTo,
  LargestTotal,
  FloorForm,
  FormulasAnswered,
}
use Rattle.rowpages.proofs.Lists.{sound_in_range}

-- A choice by index as the list of the rows above has it, the nearest first, and back.
abbrev chosen : (ℕ → Bool) → ℕ → List Bool
chosen carries zero = []
chosen carries (suc n) = carries n ∷ chosen carries n

abbrev by_index : List Bool → ℕ → Bool
by_index [] i = false
by_index (b ∷ rest) i = cond (eqb i (length rest)) b (by_index rest i)

-- choices that agree on the first n rows are the same list
chosen_agree : (f g : ℕ → Bool) (n : ℕ) → ((i : ℕ) → i < n → f i ≡ g i) → chosen f n ≡ chosen g n
chosen_agree f g zero same = refl
chosen_agree f g (suc n) same =
    rw (same n (omega arith), chosen_agree f g n (λ i h. same i (omega arith))) refl

chosen_by_index : (choice : List Bool) → chosen (by_index choice) (length choice) ≡ choice
chosen_by_index [] = refl
chosen_by_index (b ∷ rest) =
    let n = length rest in
    let lower = chosen_agree (by_index (b ∷ rest)) (by_index rest) n
    (λ i h. rw (ne_eqb i n (λ e. omega arith)) refl) in
    rw (eq-eqb n n refl, lower, chosen_by_index rest) refl

-- it speaks of each row above, has as many carriers, and adds up to the same
length_chosen : (carries : ℕ → Bool) (rows : List Row) (bounds : List ℕ) (n : ℕ)
    → length (chosen carries n) ≡ length (above_index rows bounds n)
length_chosen carries rows bounds zero = refl
length_chosen carries rows bounds (suc n) = ap suc (length_chosen carries rows bounds n)

carriers_chosen : (carries : ℕ → Bool) (n : ℕ) → carriers (chosen carries n) ≡ carry_in_rows carries n
carriers_chosen carries zero = refl
carriers_chosen carries (suc n) = go (carries n) (carriers_chosen carries n)
  where
    go : (b : Bool) → carriers (chosen carries n) ≡ carry_in_rows carries n
        → carriers (b ∷ chosen carries n) ≡ carry_in_rows carries n + cond b 1 0
    go true same = omega arith
    go false same = omega arith

-- what a row takes first is added last here
added_last : (w rest same : ℕ) → rest ≡ same → w + rest ≡ same + w
added_last w rest same e = omega arith

total_chosen : (rows : List Row) (bounds : List ℕ) (own x : ℕ) (carries : ℕ → Bool) (n : ℕ)
    → total (loads own x (above_index rows bounds n)) (chosen carries n) ≡ added_up rows bounds own x carries n
unfolding plain carry limit interference
total_chosen rows bounds own x carries zero = refl
total_chosen rows bounds own x carries (suc n) = go (carries n) (total_chosen rows bounds own x carries n)
  where
    before : ℕ
    before = total (loads own x (above_index rows bounds n)) (chosen carries n)

    same : ℕ
    same = added_up rows bounds own x carries n

    takes : Bool → ℕ
    takes b = interferes own x (works_at_most b (row_at rows n) (bound_at bounds n) x)

    go : (b : Bool) → before ≡ same
        → total (loads own x (above_index rows bounds (suc n))) (b ∷ chosen carries n) ≡ same + takes b
    go true e = added_last (takes true) before same e
    go false e = added_last (takes false) before same e

-- The literal test is the one that the answer's own proof speaks of.
module _ (M : ℕ) (rows : List Row) (bounds : List ℕ) (k x : ℕ) where
  abbrev pub own : ℕ
  own = (row_at rows k).c.0

  abbrev pub above : List Bounded
  above = above_index rows bounds k

  -- a choice by index is a list with as many carriers, which adds up to the same
  permitted_chosen : (carries : ℕ → Bool) → carry_in_rows carries k ≤ M - 1
      → Permitted M above (chosen carries k)
  permitted_chosen carries few =
      record { each = length_chosen carries rows bounds k; few = omega (arith, carriers_chosen carries k) }

  total_by_list : (carries : ℕ → Bool)
      → total (loads own x above) (chosen carries k) ≡ total_above rows bounds k x carries
  total_by_list carries = total_chosen rows bounds own x carries k

  -- and every list that speaks of each row is one by index
  chosen_all : (choice : List Bool) → length choice ≡ length above → chosen (by_index choice) k ≡ choice
  chosen_all choice each =
      subst (λ n. chosen (by_index choice) n ≡ choice) (each ∙ length_above rows bounds k)
      (chosen_by_index choice)

  few_by_index : (choice : List Bool) → Permitted M above choice → carry_in_rows (by_index choice) k ≤ M - 1
  few_by_index choice p =
      omega (arith, carriers_chosen (by_index choice) k, ap carriers (chosen_all choice p.each), p.few)

  total_by_index : (choice : List Bool) → length choice ≡ length above
      → total_above rows bounds k x (by_index choice) ≡ total (loads own x above) choice
  total_by_index choice each =
      sym (total_by_list (by_index choice)) ∙ ap (total (loads own x above)) (chosen_all choice each)

  passes_test : PassesTest M rows bounds k x ↔ Passes M own above x
  unfolding limit
  passes_test = (
    λ test choice p.
        subst (λ sum. sum < M * (x - own + 1)) (total_by_index choice p.each)
        (test (by_index choice) (omega (arith, few_by_index choice p))),
    λ passes carries few.
        subst (λ sum. sum < M * (x - own + 1)) (total_by_list carries)
        (passes (chosen carries k) (permitted_chosen carries (omega arith))),
  )

  -- the most that the rows above take: a permitted choice adds up to it, and none to more
  abbrev pub most_above : ℕ
  most_above = most (loads own x above) (M - 1)

  attained_by_index : Attains (loads own x above) (M - 1) → AddUpTo M rows bounds k x most_above
  attained_by_index a =
      let each = a.each ∙ length_loads own x above in
      record {
        carries = by_index a.choice;
        few = omega (arith, few_by_index a.choice (record { each = each; few = a.few }));
        adds_up = total_by_index a.choice each ∙ a.all;
      }

  no_more_by_index : (sum : ℕ) → AddUpTo M rows bounds k x sum → sum ≤ most_above
  no_more_by_index sum to =
      let choice = chosen to.carries k in
      subst (λ z. z ≤ most_above) (total_by_list to.carries ∙ to.adds_up)
      (total_le_most (loads own x above) choice (M - 1) (permitted_chosen to.carries to.few).few)

  pub most_is_largest : IsLargest (AddUpTo M rows bounds k x) most_above
  most_is_largest =
      record { has = attained_by_index (attained (loads own x above) (M - 1)); no_more = no_more_by_index }

-- The records of the page are those of the answer's own proof.
module _ (M : ℕ) (rows : List Row) (bounds : List ℕ) (k : ℕ) where
  least_window_means : (b : ℕ)
      → LeastWindow M rows bounds k b ↔ IsBound M (above_index rows bounds k) (row_at rows k) b
  least_window_means b = (
    λ is.
        record {
          low = is.low;
          high = omega arith;
          holds = (passes_test M rows bounds k b).0 is.passes;
          first = λ y low below passes.
              is.first y (omega arith) below ((passes_test M rows bounds k y).1 passes);
        },
    λ is.
        record {
          low = is.low;
          high = omega arith;
          passes = (passes_test M rows bounds k b).1 is.holds;
          first = λ y low below test.
              is.first y (omega arith) below ((passes_test M rows bounds k y).0 test);
        },
  )

  no_window_means : NoWindow M rows bounds k ↔ NoBound M (above_index rows bounds k) (row_at rows k)
  no_window_means = (
    λ none x low high passes. none x low (omega arith) ((passes_test M rows bounds k x).1 passes),
    λ none x low high test. none x low (omega arith) ((passes_test M rows bounds k x).0 test),
  )

judged_by_means : (M : ℕ) (rows : List Row) (j : Judged) → JudgedBy M rows j ↔ Judgement M rows j
judged_by_means M rows j = (
  λ by.
      record {
        least = λ k h. (least_window_means M rows j.bounds k (bound_at j.bounds k)).0 (by.least k h);
        ends = ⊎_elim (λ all. inl (shown.0 all)) (λ short. inr (not_shown_holds.0 short)) by.ends;
      },
  λ means.
      record {
        least = λ k h. (least_window_means M rows j.bounds k (bound_at j.bounds k)).1 (means.least k h);
        ends = ⊎_elim (λ all. inl (shown.1 all)) (λ short. inr (not_shown_holds.1 short)) means.ends;
      },
)
  where
    last : ℕ
    last = length j.bounds

    shown : EveryRowShown rows j ↔ AllShown rows j
    shown = (λ a. record { says = a.says; each = a.each }, λ a. record { says = a.says; each = a.each })

    not_shown_holds : FirstRowNotShown M rows j ↔ FirstNotShown M rows j
    not_shown_holds = (
      λ n.
          record {
            says = n.says;
            on_paper = n.on_paper;
            stands = n.stands;
            none = (no_window_means M rows j.bounds last).0 n.none;
          },
      λ n.
          record {
            says = n.says;
            on_paper = n.on_paper;
            stands = n.stands;
            none = (no_window_means M rows j.bounds last).1 n.none;
          },
    )

pub judged_right : JudgedRight judged
judged_right cores rows range =
    (judged_by_means cores rows (judged cores rows)).1
    (judged_means cores rows (sound_in_range cores rows range))

pub one_judgement_by_rules : OneJudgement
one_judgement_by_rules cores rows j k p q =
    one_judgement cores rows j k ((judged_by_means cores rows j).0 p) ((judged_by_means cores rows k).0 q)

-- a sum below M times the limit, and its Mth part in whole numbers
floor_fits : (M own x sum : ℕ) → 1 ≤ M → own ≤ x → (sum < M * (x - own + 1)) ↔ (sum / M + own ≤ x)
floor_fits M own x sum cores low =
    let quotient = div-lt_iff_lt-mul {k = M} {x = sum} {y = x - own + 1} cores in (
      λ below. let fits = quotient.1 (omega (arith, below)) in omega arith,
      λ fits. omega (arith, quotient.0 (omega arith)),
    )

pub largest_total : LargestTotal
largest_total M rows bounds k x = (most_above M rows bounds k x, most_is_largest M rows bounds k x)

pub floor_form : FloorForm
floor_form M rows bounds k x Ω cores low largest =
    let floor = floor_fits M (row_at rows k).c.0 x Ω cores low in
    let to = largest.has in (
      λ test.
          floor.0
          (subst (λ sum. sum < M * (x - (row_at rows k).c.0 + 1)) to.adds_up
          (test to.carries to.few)),
      λ fits carries few.
          lt_of_le_of_lt
          (largest.no_more _ (record { carries = carries; few = few; adds_up = refl }))
          (floor.1 fits),
    )

pub formulas_answered : FormulasAnswered
unfolding plain carry limit interference
formulas_answered =
    record { without = λ row x. refl; carrying = λ row r x. refl; limited = λ own x w. refl }
