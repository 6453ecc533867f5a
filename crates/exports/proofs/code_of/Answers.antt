-- code_of answers the code of number and place, case by case of the answer.
use Prim.Native.Nat.{ℕ, ◌<◌}
use native.Mathlib.Omega.{arith}
use mathlib.Core.Path.{◌≡◌, refl, ap, ◌∙◌}
use Rattle.quantities.specs.declared.Fault.TheVariants.{WholeList, OneRow}
use Rattle.quantities.specs.Paper.{fault_paper}
use Rattle.windows.specs.Answer.{answer_paper}
use Rattle.windows.specs.declared.Answer.{Answer}
use Rattle.windows.specs.declared.Answer.TheVariants.{Shown, NotShown, Refused}
use Rattle.exports.specs.Exported.{place_limit, coded, code_of, FitsCode}
use Rattle.exports.proofs.code_of.Goals as goal

-- the place of each case fits where the answer's does
module _ (answer : Answer) (fits : FitsCode answer) where
  not_shown_fits : (number place : ℕ) → answer ≡ NotShown number place → place < place_limit
  unfolding answer_paper fault_paper
  not_shown_fits number place e = rw e at fits

  one_row_fits : (number place : ℕ) → answer ≡ Refused (OneRow number place) → place < place_limit
  unfolding answer_paper fault_paper
  one_row_fits number place e = rw e at fits

-- the code of each case
module _ (answer : Answer) (r : ℕ) where
  shown_code : answer ≡ Shown → r ≡ 0 → r ≡ code_of (answer_paper answer)
  unfolding answer_paper fault_paper
  shown_code e is = rw e is

  not_shown_code : (number place : ℕ) → answer ≡ NotShown number place → r ≡ coded number place
      → r ≡ code_of (answer_paper answer)
  unfolding answer_paper fault_paper
  not_shown_code number place e is = rw e is

  whole_list_code : (number : ℕ) → answer ≡ Refused (WholeList number) → r ≡ coded number 0
      → r ≡ code_of (answer_paper answer)
  unfolding answer_paper fault_paper
  whole_list_code number e is = rw e is

  one_row_code : (number place : ℕ) → answer ≡ Refused (OneRow number place) → r ≡ coded number place
      → r ≡ code_of (answer_paper answer)
  unfolding answer_paper fault_paper
  one_row_code number place e is = rw e is

pub code-requires : goal.code-requires
code-requires c = not_shown_fits _ c.requires _ _ c.in-NotShown.is

pub code-requires-in-OneRow : goal.code-requires-in-OneRow
code-requires-in-OneRow c =
    let fits = one_row_fits _ c.requires _ _ (c.in-Refused.is ∙ ap Refused c.in-OneRow.is) in
    omega (arith, fits)

pub returns-in-Shown : goal.returns-in-Shown
returns-in-Shown c = shown_code _ 0 c.in-Shown.is refl

pub returns-in-NotShown : goal.returns-in-NotShown
returns-in-NotShown c = not_shown_code _ _ _ _ c.in-NotShown.is c.code.ensures

pub returns-in-WholeList : goal.returns-in-WholeList
returns-in-WholeList c =
    whole_list_code _ _ _ (c.in-Refused.is ∙ ap Refused c.in-WholeList.is) c.code-in-WholeList.ensures

pub returns-in-OneRow : goal.returns-in-OneRow
returns-in-OneRow c =
    one_row_code _ _ _ _ (c.in-Refused.is ∙ ap Refused c.in-OneRow.is) c.code-in-OneRow.ensures
