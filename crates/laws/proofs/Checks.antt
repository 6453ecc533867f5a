-- Laws of lists of checks: firstFailing tells what the first that fails tells, and nothing exactly where none does.
use mathlib.Core.Path.{◌≡◌, refl, ap, subst, ◌∙◌}
use mathlib.Core.Bool.{Bool, true, false}
use mathlib.Core.List.{List, [], ◌∷◌, ◌++◌, map}
use mathlib.Core.Option.{none, some}
use Rattle.laws.specs.Each.{Each}
use Rattle.laws.specs.Checks.{Check, check_for, retold, first_failing, NoneFails, FirstFailing}
use Rattle.laws.proofs.Tests.{not_one}

-- The first check decides where it fails, else those after it do.
module _ {A : Type 0} (one : Check A) (rest : List (Check A)) where
  pub first_fails : one.fails ≡ true → first_failing (one ∷ rest) ≡ some one.told
  unfolding first_failing
  first_fails e = rw (e, first_failing)

  pub first_passes : one.fails ≡ false → first_failing (one ∷ rest) ≡ first_failing rest
  unfolding first_failing
  first_passes e = rw (e, first_failing)

-- no check fails where none is the first to fail
pub none_fails : {A : Type 0} (checks : List (Check A)) → first_failing checks ≡ none → NoneFails checks
none_fails [] e = tt
none_fails (one ∷ rest) e = go one.fails refl (none_fails rest)
  where
    go : (t : Bool) → one.fails ≡ t → (first_failing rest ≡ none → NoneFails rest)
        → (one.fails ≡ false) × NoneFails rest
    go true q later = absurd (not_one (cc (first_fails one rest q)))
    go false q later = (q, later (rw (first_passes one rest q) at e))

-- what firstFailing tells is what the first that fails tells
pub first_failing_lem : {A : Type 0} (checks : List (Check A)) (told : A) → first_failing checks ≡ some told
    → FirstFailing checks told
unfolding first_failing
first_failing_lem [] told e = absurd (not_one cc)
first_failing_lem {A} (head ∷ rest) told e = go head.told head.fails e (first_failing_lem rest told)
  where
    go : (own : A) (t : Bool) → first_failing (check_for own t ∷ rest) ≡ some told
        → (first_failing rest ≡ some told → FirstFailing rest told) → FirstFailing (check_for own t ∷ rest) told
    go own true e later =
        let same : own ≡ told = cc in
        record { before = []; after = rest; stands = ap (λ (w : A). check_for w true ∷ rest) same; passed = tt }
    go own false e later =
        let found = later e in
        record {
          before = check_for own false ∷ found.before;
          after = found.after;
          stands = ap (λ (cs : List (Check A)). check_for own false ∷ cs) found.stands;
          passed = (refl, found.passed);
        }

-- A check that fails, behind others that pass, is the first that fails.
pub failing_behind : {A : Type 0} (before after : List (Check A)) (told : A) (fails : Bool) → fails ≡ true
    → NoneFails before → FirstFailing (before ++ check_for told fails ∷ after) told
failing_behind before after told fails failed passed =
    record { before = before; after = after; stands = rw failed; passed = passed }

-- What the first that fails tells is found, and nothing is found where none fails.
pub first_found : {A : Type 0} (checks : List (Check A)) (told : A) → FirstFailing checks told
    → first_failing checks ≡ some told
unfolding first_failing
first_found {A} checks told first =
    ap first_failing first.stands ∙ behind first.before first.after first.passed
  where
    behind : (before after : List (Check A)) → NoneFails before
        → first_failing (before ++ check_for told true ∷ after) ≡ some told
    behind [] after passed = refl
    behind (earlier ∷ before) after passed = rw (passed.0, first_failing) (behind before after passed.1)

pub none_found : {A : Type 0} (checks : List (Check A)) → NoneFails checks → first_failing checks ≡ none
unfolding first_failing
none_found [] passed = refl
none_found (one ∷ rest) passed = rw (passed.0, first_failing) (none_found rest passed.1)

-- Of two lists of checks, the first decides where one of its checks fails, else the second does.
module _ {A : Type 0} where
  pub found_in_first : (a b : List (Check A)) (told : A) → first_failing a ≡ some told
      → first_failing (a ++ b) ≡ some told
  unfolding first_failing
  found_in_first [] b told e = absurd (not_one cc)
  found_in_first (one ∷ a) b told e = go one.told one.fails e (found_in_first a b told)
    where
      go : (own : A) (t : Bool) → first_failing (check_for own t ∷ a) ≡ some told
          → (first_failing a ≡ some told → first_failing (a ++ b) ≡ some told)
          → first_failing (check_for own t ∷ a ++ b) ≡ some told
      go own true e later = e
      go own false e later = later e

  pub found_in_second : (a b : List (Check A)) → first_failing a ≡ none → first_failing (a ++ b) ≡ first_failing b
  unfolding first_failing
  found_in_second [] b e = refl
  found_in_second (one ∷ a) b e = go one.told one.fails e (found_in_second a b)
    where
      go : (own : A) (t : Bool) → first_failing (check_for own t ∷ a) ≡ none
          → (first_failing a ≡ none → first_failing (a ++ b) ≡ first_failing b)
          → first_failing (check_for own t ∷ a ++ b) ≡ first_failing b
      go own true e later = absurd (not_one cc)
      go own false e later = later e

-- What holds of all that a list of checks can tell holds of what the first that fails tells.
pub told_has : {A : Type 0} (P : A → Type 0) (told : A) (checks : List (Check A))
    → Each (λ one. P one.told) checks → first_failing checks ≡ some told → P told
unfolding first_failing
told_has P told [] each e = absurd (not_one cc)
told_has {A} P told (one ∷ rest) (here, below) e = go one.told one.fails here e (told_has P told rest below)
  where
    go : (own : A) (t : Bool) → P own → first_failing (check_for own t ∷ rest) ≡ some told
        → (first_failing rest ≡ some told → P told) → P told
    go own true has e later = let same : own ≡ told = cc in subst P same has
    go own false has e later = later e

-- Checks that tell the same in other words: the first that fails is the same one.
module _ {A B : Type 0} (words : A → B) where
  pub retold_first : (checks : List (Check A)) (told : B) → first_failing (map (retold words) checks) ≡ some told
      → (own : A) × (first_failing checks ≡ some own) × (words own ≡ told)
  unfolding first_failing
  retold_first [] told e = absurd (not_one cc)
  retold_first (one ∷ rest) told e = go one.told one.fails e (retold_first rest told)
    where
      go : (own : A) (t : Bool) → first_failing (map (retold words) (check_for own t ∷ rest)) ≡ some told
          → (first_failing (map (retold words) rest) ≡ some told
          → (own : A) × (first_failing rest ≡ some own) × (words own ≡ told))
          → (first : A) × (first_failing (check_for own t ∷ rest) ≡ some first) × (words first ≡ told)
      go own true e later = (own, refl, cc)
      go own false e later = later e

  pub retold_none : (checks : List (Check A)) → NoneFails (map (retold words) checks) → NoneFails checks
  retold_none [] passed = tt
  retold_none (one ∷ rest) passed = (passed.0, retold_none rest passed.1)
