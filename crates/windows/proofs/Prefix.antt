-- Rows below make no difference to the answer: lists that agree down to a place are answered alike down to it.
use Prim.Native.Nat.{ℕ, zero, suc, ◌≤◌}
use native.Mathlib.Omega.{arith}
use mathlib.Core.Path.{◌≡◌, refl, ap, ap₂, sym, ◌∙◌}
use mathlib.Core.Logic.{◌↔◌, ◌≢◌}
use mathlib.Core.Bool.{Bool, true, false}
use mathlib.Core.List.{List, [], ◌∷◌}
use mathlib.Core.Option.{Option, none, some}
use lib.Dec.{eqb}
use lib.ListN.{length, take, length-take}
use borrow.Author.Tests.{eqb-true, eqb-false}
use Rattle.laws.proofs.Tests.{not_one}
use Rattle.quantities.specs.Checks.{SoundList}
use Rattle.quantities.specs.declared.Row.{Row}
use Rattle.windows.specs.Choice.{Bounded, bounded}
use Rattle.windows.specs.declared.Answer.TheVariants.{Shown, NotShown}
use Rattle.windows.specs.Bound.{bound_of, bounds_below}
use Rattle.windows.specs.Answer.{late_number, verdict, judged}
use Rattle.windows.specs.Judgement.{SameDownTo}
use Rattle.windows.proofs.Judgement.{Walk, over, stop, on, walk, judged_sound}

-- the bounds of the first rows are the first bounds of the rows
pub bounds_prefix : (M : ℕ) (above : List Bounded) (rows : List Row) (k : ℕ)
    → bounds_below M above (take k rows) ≡ take k (bounds_below M above rows)
unfolding bounds_below
bounds_prefix M above rows zero = refl
bounds_prefix M above [] (suc k) = refl
bounds_prefix M above (row ∷ rows) (suc k) = go (bound_of M above row) refl (λ b. bounds_prefix M (bounded row b ∷ above) rows k)
  where
    go : (found : Option ℕ) → bound_of M above row ≡ found
        → ((b : ℕ) → bounds_below M (bounded row b ∷ above) (take k rows) ≡ take k (bounds_below M (bounded row b ∷ above) rows))
        → bounds_below M above (row ∷ take k rows) ≡ take (suc k) (bounds_below M above (row ∷ rows))
    go none q below = rw (q, bounds_below) refl
    go (some b) q below = rw (q, bounds_below) (ap (λ bs. b ∷ bs) (below b))

-- no more bounds than rows
walk_few : {M : ℕ} {above : List Bounded} {rows : List Row} {bounds : List ℕ} → Walk M above rows bounds
    → length bounds ≤ length rows
walk_few over = omega arith
walk_few (stop p) = omega arith
walk_few (on p w) = omega (arith, walk_few w)

-- which number and place a verdict names
abbrev Named : (count : ℕ) → List ℕ → (number place : ℕ) → Type 0
Named count bounds number place =
    (length bounds ≢ count) × ((number ≡ late_number) × (place ≡ suc (length bounds)))

verdict_named : (count : ℕ) (bounds : List ℕ) (number place : ℕ)
    → ((verdict count bounds).answer ≡ NotShown number place) ↔ Named count bounds number place
unfolding verdict
verdict_named count bounds number place = go (eqb (length bounds) count) refl
  where
    go : (t : Bool) → eqb (length bounds) count ≡ t
        → ((verdict count bounds).answer ≡ NotShown number place) ↔ Named count bounds number place
    go true q = (
      λ e. let f : Shown ≡ NotShown number place = rw (q, verdict) at e in absurd (not_one cc),
      λ both. absurd (both.0 (eqb-true (length bounds) count q)),
    )
    go false q = (
      λ e.
          let f : NotShown late_number (suc (length bounds)) ≡ NotShown number place = rw (q, verdict) at e in
          (eqb-false (length bounds) count q, (cc, cc)),
      λ named. rw (q, verdict) (ap₂ NotShown (sym named.1.0) (sym named.1.1)),
    )

module _ (M k : ℕ) where
  -- the bounds of lists that agree down to place k
  same_bounds : (rows others : List Row) → take k rows ≡ take k others
      → take k (bounds_below M [] rows) ≡ take k (bounds_below M [] others)
  same_bounds rows others agree = sym (bounds_prefix M [] rows k) ∙ ap (bounds_below M []) agree ∙ bounds_prefix M [] others k

  -- a place down to k that is named in one is named in the other, by the same number
  same_named : (rows others : List Row) → take k rows ≡ take k others → (number place : ℕ) → place ≤ k
      → (verdict (length rows) (bounds_below M [] rows)).answer ≡ NotShown number place
      → (verdict (length others) (bounds_below M [] others)).answer ≡ NotShown number place
  same_named rows others agree number place high e =
      let bounds = bounds_below M [] rows in
      let bounds' = bounds_below M [] others in
      let named = (verdict_named (length rows) bounds number place).0 e in
      let few = walk_few (walk M [] rows) in
      let rows_as_long = sym (length-take k rows) ∙ ap length agree ∙ length-take k others in
      let bounds_as_long = sym (length-take k bounds) ∙ ap length (same_bounds rows others agree) ∙ length-take k bounds' in
      (verdict_named (length others) bounds' number place).1 (λ equal. omega arith, (named.1.0, omega arith))

-- Rows below make no difference: two sound lists that agree down to place k are answered alike down to it.
pub rows_below : (M k : ℕ) (rows others : List Row) → SoundList M rows → SoundList M others
    → take k rows ≡ take k others → SameDownTo k (judged M rows) (judged M others)
unfolding verdict
rows_below M k rows others sound sound' agree =
    rw (judged_sound M rows sound, judged_sound M others sound')
    (record {
      bounds = same_bounds M k rows others agree;
      named = λ number place high. (
        same_named M k rows others agree number place high,
        same_named M k others rows (sym agree) number place high,
      );
    })
