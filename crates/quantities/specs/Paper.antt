-- The numbers of document 01 for an answer: every refusal has a number and a place.
use Rattle.std.specs.Prelude.{ℕ, Result, Ok, Err}
use Rattle.quantities.specs.declared.Fault.{Fault}
use Rattle.quantities.specs.declared.Fault.TheVariants.{WholeList, OneRow}

-- A number and a place of document 01.
pub record Paper : Type 0 where
  pub number : ℕ
  pub place : ℕ

abbrev pub paper : (number place : ℕ) → Paper
paper number place = record { number = number; place = place }

-- what stands where nothing is refused: 0 at 0
abbrev pub no_refusal : Paper
no_refusal = paper 0 0

-- a fault on paper; one of the whole list stands at place 0
unfoldable pub fault_paper : Fault → Paper
fault_paper (WholeList number) = paper number 0
fault_paper (OneRow number place) = paper number place

-- what the checks found, on paper
unfoldable pub checked_paper : Result (Unit {0}) Fault → Paper
checked_paper (Ok passed) = no_refusal
checked_paper (Err fault) = fault_paper fault
