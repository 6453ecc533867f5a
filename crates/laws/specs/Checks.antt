-- Lists of checks, each with what is told where it fails, and what the first that fails tells.
use Rattle.std.specs.Prelude.{◌≡◌, Bool, true, false, List, [], ◌∷◌, ◌++◌}
use Rattle.std.proofs.Math.Option.{Option, none, some}
use Rattle.laws.specs.Each.{Each}

-- A check: what is told where it fails, and whether it does.
pub record Check (A : Type 0) : Type 0 where
  pub told : A
  pub fails : Bool

abbrev pub check_for : {A : Type 0} → A → Bool → Check A
check_for told fails = record { told = told; fails = fails }

-- the check that tells the same in other words
abbrev pub retold : {A B : Type 0} → (A → B) → Check A → Check B
retold words one = check_for (words one.told) one.fails

-- what the first check that fails tells
unfoldable pub first_failing : {A : Type 0} → List (Check A) → Option A
first_failing [] = none
first_failing (one ∷ rest) = elim one.fails [ true ↦ some one.told | false ↦ first_failing rest ]

-- none of the checks fails
abbrev pub NoneFails : {A : Type 0} → List (Check A) → Type 0
NoneFails checks = Each (λ one. one.fails ≡ false) checks

-- The first check of a list that fails tells this: it stands there, it fails, and no check before it does.
pub record FirstFailing {A : Type 0} (checks : List (Check A)) (told : A) : Type 0 where
  pub before : List (Check A)
  pub after : List (Check A)
  pub stands : checks ≡ before ++ check_for told true ∷ after
  pub passed : NoneFails before
