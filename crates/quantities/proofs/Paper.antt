-- A fault on paper has the number and the place of the check that made it.
use Prim.Native.Nat.{ℕ, zero, suc}
use mathlib.Core.Path.{◌≡◌, refl, ap, ◌∙◌}
use mathlib.Core.List.{List}
use mathlib.Core.Option.{Option, none, some}
use Rattle.laws.specs.Checks.{Check, first_failing, FirstFailing}
use Rattle.quantities.specs.Checks.{fault_from}
use Rattle.quantities.specs.Paper.{Paper, paper, fault_paper}
use Rattle.quantities.specs.declared.Fault.{Fault}
use Rattle.quantities.specs.declared.Fault.TheVariants.{WholeList, OneRow}
use Rattle.laws.proofs.Checks.{first_failing_lem, first_found}
use Rattle.laws.proofs.Tests.{not_one}

-- The fault of checks, where the first that fails tells this number and place.
pub record Turned (checks : List (Check Paper)) (one : Paper) : Type 0 where
  pub fault : Fault
  pub is_fault_holds : fault_from (first_failing checks) ≡ some fault
  pub on_paper : fault_paper fault ≡ one

pub turned_away : (checks : List (Check Paper)) (one : Paper) → FirstFailing checks one → Turned checks one
unfolding fault_from fault_paper
turned_away checks one first = at one.number one.place (first_found checks one first)
  where
    at : (number place : ℕ) → first_failing checks ≡ some (paper number place) → Turned checks (paper number place)
    at number zero e = record { fault = WholeList number; is_fault_holds = ap fault_from e; on_paper = refl }
    at number (suc p) e = record { fault = OneRow number (suc p); is_fault_holds = ap fault_from e; on_paper = refl }

-- and the other way round: a fault comes from the first check that fails
pub fault_first : (checks : List (Check Paper)) (fault : Fault) → fault_from (first_failing checks) ≡ some fault
    → FirstFailing checks (fault_paper fault)
unfolding fault_from fault_paper
fault_first checks fault e = go (first_failing checks) refl
  where
    made : (number place : ℕ) → fault_from (some (paper number place)) ≡ some fault
        → paper number place ≡ fault_paper fault
    made number zero f = let is : WholeList number ≡ fault = cc in rw (← is) refl
    made number (suc p) f = let is : OneRow number (suc p) ≡ fault = cc in rw (← is) refl

    go : (found : Option Paper) → first_failing checks ≡ found → FirstFailing checks (fault_paper fault)
    go none q = absurd (not_one (cc (rw q at e)))
    go (some one) q =
        first_failing_lem checks (fault_paper fault) (q ∙ ap some (made one.number one.place (rw q at e)))
