-- Laws of the answer whose bounds go into a list with this many entries: which of checks 1 to 7 decides.
use Prim.Native.Nat.{ℕ, suc, ◌≤◌, ◌<◌}
use native.Mathlib.Omega.{arith}
use mathlib.Core.Path.{◌≡◌, ap}
use mathlib.Core.Bool.{Bool, true, false}
use mathlib.Core.Logic.{⊎_elim}
use mathlib.Core.List.{List, []}
use mathlib.Core.Option.{Option, none, some}
use lib.Dec.{eqb}
use lib.ListN.{length}
use Rattle.laws.proofs.Tests.{not_one}
use Rattle.quantities.specs.Checks.{list_fault, lent_fault, SoundList}
use Rattle.quantities.specs.declared.Row.{Row}
use Rattle.quantities.specs.declared.Fault.{Fault}
use Rattle.quantities.specs.declared.Fault.TheVariants.{WholeList}
use Rattle.quantities.proofs.Checks.{lent_fault_list, lent_fault_short, lent_fault_room}
use Rattle.windows.specs.declared.Answer.{Answer}
use Rattle.windows.specs.declared.Answer.TheVariants.{Shown, NotShown, Refused}
use Rattle.windows.specs.Bound.{bounds_below}
use Rattle.windows.specs.Answer.{late_number, verdict, judged_after, judged, judged_into}
use Rattle.windows.specs.Judgement.{AllShown, FirstNotShown}
use Rattle.windows.proofs.Judgement.{judged_means}

module _ (M entries : ℕ) (rows : List Row) where
  -- where one of checks 1 to 7 finds a fault, that is the answer, with no bounds
  pub into_refused : (fault : Fault) → lent_fault M entries rows ≡ some fault
      → judged_into M entries rows ≡ record { answer = Refused fault; bounds = [] }
  unfolding judged_into judged_after
  into_refused fault e = rw e

  -- a list that fails one of checks 1 to 6 has that fault, whatever the bounds list
  pub into_faulty : (fault : Fault) → list_fault M rows ≡ some fault
      → judged_into M entries rows ≡ record { answer = Refused fault; bounds = [] }
  into_faulty fault e = into_refused fault (lent_fault_list M entries rows fault e)

  -- one that passes them has fault 7 where the bounds list is too short
  pub into_short : list_fault M rows ≡ none → entries < length rows
      → judged_into M entries rows ≡ record { answer = Refused (WholeList 7); bounds = [] }
  into_short e h = into_refused (WholeList 7) (lent_fault_short M entries rows e h)

  -- and is judged as it stands where the bounds list has room
  pub into_room : list_fault M rows ≡ none → length rows ≤ entries → judged_into M entries rows ≡ judged M rows
  unfolding judged_into judged
  into_room e h = rw (lent_fault_room M entries rows e h, e)

-- an answer that refuses with a fault comes from that fault
pub refused_fault : (found : Option Fault) (M : ℕ) (rows : List Row) (fault : Fault)
    → (judged_after found M rows).answer ≡ Refused fault → found ≡ some fault
unfolding judged_after verdict
refused_fault (some other) M rows fault e = let same : other ≡ fault = cc in ap some same
refused_fault none M rows fault e = absurd (searched (eqb (length (bounds_below M [] rows)) (length rows)) e)
  where
    searched : (all : Bool)
        → ◌≡◌ {A = Answer}
        (elim all [ true ↦ Shown | false ↦ NotShown late_number (suc (length (bounds_below M [] rows))) ])
        (Refused fault)
        → ⊥
    searched true e = not_one cc
    searched false e = not_one cc

-- a sound list has at most a bound for each row
pub few_bounds : (M : ℕ) (rows : List Row) → SoundList M rows → length (judged M rows).bounds ≤ length rows
few_bounds M rows sound =
    ⊎_elim (λ (a : AllShown rows (judged M rows)). omega (arith, a.each))
    (λ (n : FirstNotShown M rows (judged M rows)). omega (arith, n.stands))
    (judged_means M rows sound).ends
