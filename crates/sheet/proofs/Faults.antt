-- A sheet is refused exactly by its first fault, with that check's number and place.
use Prim.Native.Nat.{ℕ, zero, suc, ◌+◌, ◌<◌}
use native.Mathlib.Omega.{arith}
use mathlib.Core.Path.{◌≡◌, refl, sym, ap, ◌∙◌}
use mathlib.Core.Bool.{Bool, true, false}
use mathlib.Core.List.{List, [], ◌∷◌}
use mathlib.Core.Option.{Option, none, some}
use lib.ListN.{length, drop, length-drop}
use Rattle.laws.specs.Each.{Each}
use Rattle.laws.specs.Checks.{Check, first_failing, FirstFailing}
use Rattle.quantities.specs.Paper.{Paper, paper}
use Rattle.quantities.specs.Checks.{check}
use Rattle.laws.proofs.Checks.{none_fails, none_found, first_failing_lem, first_found}
use Rattle.records.specs.Records.{is_end}
use Rattle.records.specs.declared.Record.TheVariants.{Missing}
use Rattle.records.proofs.Records.{missing_empty}
use Rattle.sheet.specs.Checks.{record_checks, verdict_of}
use Rattle.sheet.specs.Reader.{new_reading, refused, whole, read_of}
use Rattle.sheet.specs.Faults.{record_at, checks_at, ReadTo, start, next, FirstFault, FaultAt}
use Rattle.sheet.specs.declared.Reading.{Reading}
use Rattle.sheet.specs.Checks.{Verdict, fault}
use Rattle.std.specs.Prelude.{Ok, Err}
use Rattle.sheet.specs.declared.Outcome.{Outcome}
use Rattle.sheet.proofs.Checks.{sound_not_refused, same_refusal}
use Rattle.sheet.proofs.Reader.{Reads, reads_new, turn_refused, turn_whole, turn_within, turn_on}

-- The verdict of checks, by the first that fails.
pub verdict_none : (checks : List (Check Paper)) → Each (λ one. one.fails ≡ false) checks → verdict_of checks ≡ Ok tt
unfolding verdict_of
verdict_none checks passed = rw (none_found checks passed, verdict_of)

pub verdict_first : (checks : List (Check Paper)) (one : Paper) → FirstFailing checks one
    → verdict_of checks ≡ Err (fault one.number one.place)
unfolding verdict_of
verdict_first checks one first = rw (first_found checks one first, verdict_of)

-- What a verdict says of the checks: none fails, or the first that does has its number and its place.
module _ (checks : List (Check Paper)) where
  sound_passed : verdict_of checks ≡ Ok tt → Each (λ one. one.fails ≡ false) checks
  unfolding verdict_of
  sound_passed s = go (first_failing checks) refl
    where
      go : (found : Option Paper) → first_failing checks ≡ found → Each (λ one. one.fails ≡ false) checks
      go none q = none_fails checks q
      go (some one) q = absurd (sound_not_refused one.number one.place (rw (q, verdict_of) at s))

  -- the first check that fails tells its number and its place
  refused_failing : (number place : ℕ) → verdict_of checks ≡ Err (fault number place)
      → FirstFailing checks (paper number place)
  unfolding verdict_of
  refused_failing number place e = go (first_failing checks) refl
    where
      go : (found : Option Paper) → first_failing checks ≡ found → FirstFailing checks (paper number place)
      go none q = absurd (sound_not_refused number place (sym (rw (q, verdict_of) at e)))
      go (some one) q =
          let (numbered, placed) = same_refusal one.number one.place number place (rw (q, verdict_of) at e) in
          let same : one ≡ paper number place = ap (λ (n : ℕ). paper n one.place) numbered ∙ ap (paper number) placed in
          first_failing_lem checks (paper number place) (q ∙ ap some same)

module _ (sheet : List ℕ) where
  -- what is read from behind the records up to a place is the sheet's answer
  read_to : {reading : Reading} {at : ℕ} → ReadTo sheet reading at → Reads sheet reading at
  read_to start = reads_new sheet
  read_to (next {reading} {at} before passed last) =
      turn_on sheet reading at (read_to before) (verdict_none (checks_at sheet reading at) passed) last

  -- where no byte stands, the place is the sheet's length
  missing_at_end : (reading : Reading) (at : ℕ) → ReadTo sheet reading at → record_at sheet at ≡ Missing
      → at ≡ length sheet
  missing_at_end reading at before e =
      let none = missing_empty (drop at sheet) e in
      omega (arith, (read_to before).within, length-drop at sheet, none)

  pub first_fault_refused : (one : Paper) → FirstFault sheet one
      → read_of sheet ≡ refused one.number one.place
  first_fault_refused one fault =
      let reading = fault.reading in
      let at = fault.at in
      let verdict = verdict_first (checks_at sheet reading at) one fault.first in
      sym (turn_refused sheet reading at (read_to fault.before) one.number one.place verdict)

  -- no byte where a record should start
  pub missing_refused : (reading : Reading) (at : ℕ) → ReadTo sheet reading at → record_at sheet at ≡ Missing
      → read_of sheet ≡ refused 11 (length sheet)
  unfolding record_checks
  missing_refused reading at before e =
      let checks : checks_at sheet reading at ≡ check 11 at true ∷ [] = rw e refl in
      let first : FirstFailing (checks_at sheet reading at) (paper 11 at) =
      record { before = []; after = []; stands = checks; passed = tt } in
      first_fault_refused (paper 11 at) (record { reading = reading; at = at; before = before; first = first })
      ∙ ap (refused 11) (missing_at_end reading at before e)

  -- A refused sheet: the records are read in turn, until one has a check that fails.
  module _ (number place : ℕ) (e : (read_of sheet).verdict ≡ Err (fault number place)) where
    -- the record where the reading stands is the first that fails
    fault_here : (reading : Reading) (at : ℕ) → ReadTo sheet reading at → (a b : ℕ)
        → verdict_of (checks_at sheet reading at) ≡ Err (fault a b) → FaultAt sheet number place
    unfolding refused
    fault_here reading at before a b v =
        let answer = turn_refused sheet reading at (read_to before) a b v in
        let same = same_refusal a b number place (ap (λ (o : Outcome). o.verdict) answer ∙ e) in
        let found = refused_failing (checks_at sheet reading at) a b v in
        let fault : FaultAt sheet a b = record { reading = reading; at = at; before = before; first = found } in
        rw (same.0, same.1) at fault

    -- no end record is taken
    not_taken : (reading : Reading) (at : ℕ) → ReadTo sheet reading at
        → verdict_of (checks_at sheet reading at) ≡ Ok tt → is_end (record_at sheet at) ≡ true → ⊥
    unfolding whole
    not_taken reading at before v last =
        let answer = turn_whole sheet reading at (read_to before) v last in
        sound_not_refused number place (sym (ap (λ (o : Outcome). o.verdict) answer ∙ e))

    -- each record takes a byte or more, so that the sheet's bytes suffice
    fault_from_lem : (limit : ℕ) (reading : Reading) (at : ℕ) → ReadTo sheet reading at
        → length sheet < at + limit → FaultAt sheet number place
    fault_from_lem zero reading at before enough = absurd (omega (arith, (read_to before).within))
    fault_from_lem (suc limit) reading at before enough =
        by_verdict (fault_from_lem limit) (verdict_of (checks_at sheet reading at)) refl
      where
        Later : Type 0
        Later =
            (reading : Reading) (at : ℕ) → ReadTo sheet reading at
            → length sheet < at + limit → FaultAt sheet number place

        by_end : Later → verdict_of (checks_at sheet reading at) ≡ Ok tt
            → (b : Bool) → is_end (record_at sheet at) ≡ b → FaultAt sheet number place
        by_end later v true last = absurd (not_taken reading at before v last)
        by_end later v false last =
            let size = turn_within sheet reading at (read_to before) v in
            let passed = sound_passed (checks_at sheet reading at) v in
            later _ _ (next before passed last) (omega (arith, size.some))

        by_verdict : Later → (v : Verdict) → verdict_of (checks_at sheet reading at) ≡ v
            → FaultAt sheet number place
        by_verdict later (Ok _) v = by_end later v (is_end (record_at sheet at)) refl
        by_verdict later (Err one) v = fault_here reading at before one.number one.place v

    pub refused_first_fault : FaultAt sheet number place
    refused_first_fault = fault_from_lem (suc (length sheet)) new_reading 0 start (omega arith)
