-- What `window` means: the least window that passes in document 01's words, or none where no window passes.
use Prim.Native.Nat.{ℕ, suc, ◌≤◌}
use mathlib.Core.Path.{◌≡◌, refl}
use mathlib.Core.Logic.Iff
use mathlib.Core.Logic.{◌↔◌}
use mathlib.Core.List.{List, [], ◌∷◌}
use mathlib.Core.Option.{Option, none, some}
use native.Mathlib.Omega.{arith}
use lib.ListN.{length}
use Rattle.quantities.specs.declared.Row.{Row}
use Rattle.quantities.specs.Row.{cost, deadline, gap}
use Rattle.windows.specs.Window.{limit}
use Rattle.windows.specs.Choice.{Bounded, bounded, InRange, Passes, most, passes}
use Rattle.windows.specs.Least.{first_of, least, IsLeast, NoneIn}
use Rattle.windows.specs.Bound.{window, bound_of, bounds_below}
use Rattle.windows.proofs.Choice.{passes_means}
use Rattle.windows.proofs.Least.{Outcome, outcome_some, outcome_none, outcome_agrees, least_is}

-- A row with cost 3 and nothing above has the bound 3: no shorter window is tried, though 0 would pass.
alone_takes_its_cost : window 1 3 5 [] ≡ some 3
unfolding limit most passes first_of least window
alone_takes_its_cost = refl

-- an answer is the window exactly when it tells what is so of every choice
pub window_is : (M own top : ℕ) (above : List Bounded) (o : Option ℕ)
    → (window M own top above ≡ o) ↔ Outcome (Passes M own above) own top o
unfolding window
window_is M own top above o =
    Iff.trans
    (least_is (passes M own above) own top o) (
      outcome_agrees (λ y low high. passes_means M own above y),
      outcome_agrees (λ y low high. Iff.symm (passes_means M own above y)),
    )

pub window_some : (M own top : ℕ) (above : List Bounded) (x : ℕ)
    → (window M own top above ≡ some x) ↔ IsLeast (Passes M own above) own top x
window_some M own top above x = Iff.trans (window_is M own top above (some x)) outcome_some

pub window_none : (M own top : ℕ) (above : List Bounded)
    → (window M own top above ≡ none) ↔ NoneIn (Passes M own above) own top
window_none M own top above = Iff.trans (window_is M own top above none) outcome_none

-- the bound of a row that passed the checks is in range, so the rows above a row always are
pub bound_in_range : (M r : ℕ) (above : List Bounded) (row : Row) → 1 ≤ cost row → deadline row ≤ gap row
    → bound_of M above row ≡ some r → InRange (bounded row r)
bound_in_range M r above row works short is_bound =
    let is_least = (window_some M (cost row) _ above r).0 is_bound in
    record { works = works; low = is_least.low; high = omega arith }

-- one row of the walk: it has a bound and the rows below go on, or it has none and the bounds end
pub bounds_on : (M b : ℕ) (above : List Bounded) (row : Row) (rows : List Row) → bound_of M above row ≡ some b
    → bounds_below M above (row ∷ rows) ≡ b ∷ bounds_below M (bounded row b ∷ above) rows
unfolding bounds_below
bounds_on M b above row rows is_bound = rw (is_bound, bounds_below) refl

pub bounds_stop : (M : ℕ) (above : List Bounded) (row : Row) (rows : List Row) → bound_of M above row ≡ none
    → bounds_below M above (row ∷ rows) ≡ []
unfolding bounds_below
bounds_stop M above row rows no_bound = rw (no_bound, bounds_below) refl

pub bounds_end : (M : ℕ) (above : List Bounded) → bounds_below M above [] ≡ []
unfolding bounds_below
bounds_end M above = refl

-- there are no more bounds than rows
pub bounds_few : (M : ℕ) (above : List Bounded) (rows : List Row) → length (bounds_below M above rows) ≤ length rows
unfolding bounds_below
bounds_few M above [] = omega arith
bounds_few M above (row ∷ rows) = go (bound_of M above row) (λ b. bounds_few M (bounded row b ∷ above) rows)
  where
    go : (found : Option ℕ) → ((b : ℕ) → length (bounds_below M (bounded row b ∷ above) rows) ≤ length rows)
        → length {A = ℕ} (elim found [ none ↦ [] | some b ↦ b ∷ bounds_below M (bounded row b ∷ above) rows ])
        ≤ suc (length rows)
    go none below = omega arith
    go (some b) below = omega (arith, below b)
