-- The lent analysis answers, and leaves the lent list, as specs/Lent.antt says.
use Prim.Native.Nat.{ℕ, zero, suc, ◌-◌, ◌≤◌}
use native.Mathlib.Omega.{arith}
use native.Mathlib.Decide.{dec_le}
use mathlib.Core.Path.{◌≡◌, refl, sym, ap, ◌∙◌}
use mathlib.Core.Option.{Option, none, some}
use mathlib.Core.List.{List, ◌++◌}
use lib.ListN.{length, drop, replicate, length-map, length-append, length-drop, length-replicate, take-append-drop}
use lib.Seq.{take-append_seam, drop-append_seam}
use Rattle.laws.specs.Each.{Each}
use Rattle.quantities.specs.Paper.{fault_paper}
use Rattle.quantities.specs.declared.Row.{Row}
use Rattle.quantities.specs.declared.Fault.{Fault}
use Rattle.quantities.specs.declared.Fault.TheVariants.{WholeList}
use Rattle.quantities.specs.declared.Ticks.{Ticks}
use Rattle.quantities.specs.Limits.{row_capacity}
use Rattle.laws.specs.Checks.{FirstFailing}
use Rattle.quantities.specs.Checks.{list_checks, room_checks, list_fault, lent_fault}
use Rattle.quantities.specs.Lengths.{numbers, in_array}
use Rattle.quantities.proofs.Checks.{lent_fault_list, lent_fault_short}
use Rattle.quantities.proofs.Paper.{fault_first}
use Rattle.quantities.proofs.Sound.{sound_list_means}
use Rattle.quantities.proofs.Lengths.{numbers_in_array}
use Rattle.windows.specs.declared.Answer.{Answer}
use Rattle.windows.specs.Answer.{Judged, judged, judged_into, bounds_after, answer_paper}
use Rattle.windows.proofs.Into.{into_refused, into_room, refused_fault, few_bounds}
use Rattle.analysis.specs.Analysis.{analysis_of}
use Rattle.windows.proofs.Judgement.{judged_faulty}
use Rattle.lentrows.specs.Lent.{told_of}
use Rattle.lentrows.proofs.Lent.{bounds_fit}
use Rattle.rowpages.specs.Lists.{lent_order, fault_at, ListInRange}
use Rattle.rowpages.specs.Lent.{
  lent,
  OfLengths,
  LentAnswered,
  LentTurnedAway,
  RefusedLentHasFault,
  LentJudgement,
  LentJudged,
  LentOutcome,
  OneLent,
  InEntries,
  ByValue,
  ToldFor,
  TripleIsRow,
  TriplesInOrder,
  CallersInC,
}
use Rattle.rowpages.proofs.Lists.{lent_order_lem, fault_of_first, turned_by, sound_in_range, in_range_sound}
use Rattle.rowpages.proofs.Windows.{judged_right, one_judgement_by_rules}

pub lent_answered : LentAnswered lent
lent_answered cores rows before =
    let j = judged_into cores (length before) rows in
    record { after = bounds_after j before; answer = j.answer; given = record { answers = refl; leaves = refl } }

pub of_lengths : OfLengths
of_lengths =
    record {
      none = refl;
      one = λ length_of rest. refl;
      analyse_list = λ cores rows before after answer given.
          rw (length-map before (λ (one : Ticks). one.0)) given;
    }

pub lent_turned_away : LentTurnedAway lent
unfolding lent_fault bounds_after
lent_turned_away cores rows before after answer one given first =
    let first' = rw (lent_order_lem cores (length before) rows) at first in
    let fault = fault_at one.number one.place in
    let found = fault_of_first (list_checks cores rows ++ room_checks (length before) rows) one first' in
    let is = into_refused cores (length before) rows fault found in
    let turned = turned_by one (judged_into cores (length before) rows) is in
    record {
      answers = given.answers ∙ turned.answers;
      on_paper = ap answer_paper given.answers ∙ turned.on_paper;
      same_list = given.leaves ∙ ap (λ (j : Judged). bounds_after j before) is;
    }

pub refused_lent_has_fault : RefusedLentHasFault lent
unfolding judged_into lent_fault
refused_lent_has_fault cores rows before after fault given =
    rw (lent_order_lem cores (length before) rows)
    (fault_first (list_checks cores rows ++ room_checks (length before) rows) fault
    (refused_fault (lent_fault cores (length before) rows) cores rows fault (sym given.answers)))

pub lent_judged : LentJudged lent
unfolding bounds_after
lent_judged cores rows before after answer given range room =
    let sound = sound_in_range cores rows range in
    let is = into_room cores (length before) rows ((sound_list_means cores rows).1 sound) room in
    let j = judged cores rows in
    let n = length j.bounds in
    let same : answer ≡ j.answer = given.answers ∙ ap (λ (k : Judged). k.answer) is in
    let leaves : after ≡ bounds_after j before = given.leaves ∙ ap (λ (k : Judged). bounds_after k before) is in
    record {
      bounds = j.bounds;
      right = rw same (judged_right cores rows range);
      first = rw leaves (take-append_seam j.bounds (drop n before));
      later = rw leaves (drop-append_seam j.bounds (drop n before));
      as_long =
          rw leaves
          (length-append j.bounds (drop n before) ∙ omega (arith, length-drop n before, few_bounds cores rows sound));
    }

-- Two outcomes by the rules are equal.
module _ (cores : ℕ) (rows : List Row) (before after after' : List ℕ) (answer answer' : Answer)
    (by_rules : LentOutcome cores rows before after answer)
    (by_rules' : LentOutcome cores rows before after' answer') where
  one_turned : (fault : Fault) → lent_fault cores (length before) rows ≡ some fault
      → (after ≡ after') × (answer ≡ answer')
  unfolding lent_fault
  one_turned fault found =
      let first = fault_first (list_checks cores rows ++ room_checks (length before) rows) fault found in
      let failing : FirstFailing (lent_order cores (length before) rows) (fault_paper fault)
      = rw (lent_order_lem cores (length before) rows) first in
      let turned = by_rules.faulty (fault_paper fault) failing in
      let turned' = by_rules'.faulty (fault_paper fault) failing in
      (turned.same_list ∙ sym turned'.same_list, turned.answers ∙ sym turned'.answers)

  -- the first entries are the bounds, and the later ones are as they were
  left_with : (list : List ℕ) (one : Answer) (j : LentJudgement cores rows before list one)
      → list ≡ j.bounds ++ drop (length j.bounds) before
  left_with list one j =
      sym (take-append-drop (length j.bounds) list) ∙ rw (j.first, j.later) refl

  one_judged : ListInRange cores rows → length rows ≤ length before → (after ≡ after') × (answer ≡ answer')
  one_judged range room =
      let j = by_rules.judges range room in
      let k = by_rules'.judges range room in
      let same = one_judgement_by_rules cores rows _ _ j.right k.right in
      let bounds : j.bounds ≡ k.bounds = ap (λ (one : Judged). one.bounds) same in (
        left_with after answer j
            ∙ ap (λ (xs : List ℕ). xs ++ drop (length xs) before) bounds
            ∙ sym (left_with after' answer' k),
        ap (λ (one : Judged). one.answer) same,
      )

  one_outcome : (found : Option Fault) → list_fault cores rows ≡ found → Dec (length rows ≤ length before)
      → (after ≡ after') × (answer ≡ answer')
  one_outcome (some fault) q room = one_turned fault (lent_fault_list cores (length before) rows fault q)
  one_outcome none q (no short) = one_turned (WholeList 7) (lent_fault_short cores (length before) rows q (omega arith))
  one_outcome none q (yes room) = one_judged (in_range_sound cores rows ((sound_list_means cores rows).0 q)) room

pub one_lent : OneLent
one_lent cores rows before after after' answer answer' by_rules by_rules' =
    one_outcome cores rows before after after' answer answer' by_rules by_rules'
    (list_fault cores rows) refl (dec_le (length rows) (length before))

-- repeated entries are each the one repeated
each_blank : (n : ℕ) → Each (λ (entry : ℕ). entry ≡ 0) (replicate n 0)
each_blank zero = tt
each_blank (suc n) = (refl, each_blank n)

in_entries : (bounds : List ℕ) → length bounds ≤ 32 → InEntries bounds (numbers (in_array bounds))
in_entries bounds few =
    let blank : List ℕ = replicate (row_capacity - length bounds) 0 in
    rw (numbers_in_array bounds)
    (record {
      first = take-append_seam bounds blank;
      blank = rw (drop-append_seam bounds blank) (each_blank (row_capacity - length bounds));
      many =
          length-append bounds blank
          ∙ omega (arith, few, length-replicate {A = ℕ} (row_capacity - length bounds) 0);
    })

-- no list has more bounds than a table has rows
few_judged : (cores : ℕ) (rows : List Row) → length (judged cores rows).bounds ≤ 32
few_judged cores rows = by_fault (list_fault cores rows) refl
  where
    by_fault : (found : Option Fault) → list_fault cores rows ≡ found → length (judged cores rows).bounds ≤ 32
    by_fault (some fault) q = rw (judged_faulty cores rows fault q) (omega arith)
    by_fault none q =
        let sound = (sound_list_means cores rows).0 q in
        omega (arith, few_bounds cores rows sound, sound.few_rows)

pub by_value : ByValue
unfolding analysis_of
by_value cores rows = (refl, in_entries (judged cores rows).bounds (few_judged cores rows))

pub told_for : ToldFor
unfolding told_of
told_for cores entries rows =
    let j = judged_into cores entries rows in
    record { answer = refl; bounds = in_entries j.bounds (bounds_fit cores entries rows).0; shown = refl }

pub triple_is_row : TripleIsRow
triple_is_row c d t = (refl, refl, refl)

pub triples_in_order : TriplesInOrder
triples_in_order = record { none = refl; one = λ triple rest. refl }

pub callers_in_c : CallersInC
callers_in_c cores triples before after code exported =
    record {
      answer = (judged_into cores (length before) _).answer;
      given = record { answers = refl; leaves = exported.leaves };
      coded = exported.answers;
    }
