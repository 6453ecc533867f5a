-- What the statement of the analysis on a lent list says of the list afterwards: each sentence of specs/Lent.
use Prim.Native.Nat.{ℕ, ◌-◌, ◌≤◌}
use native.Mathlib.Omega.{arith}
use native.Mathlib.Decide.{dec_le}
use mathlib.Core.Path.{◌≡◌, refl, sym, ap, ◌∙◌}
use mathlib.Core.List.{List, [], ◌∷◌, cons-ne-nil, head-eq_of_cons-eq, tail-eq_of_cons-eq}
use mathlib.Core.Option.{Option, none, some}
use lib.ListN.{length, drop, length-append, length-drop}
use lib.Seq.{take_at, drop_at}
use Rattle.laws.proofs.Tests.{not_one}
use Rattle.windows.proofs.Judgement.{verdict_shown, verdict_not_shown, verdict_not_refused}
use Rattle.quantities.specs.Limits.{row_capacity}
use Rattle.quantities.specs.Checks.{list_fault, lent_fault}
use Rattle.quantities.specs.Lengths.{ticks, numbers}
use Rattle.quantities.specs.declared.Row.{Row}
use Rattle.quantities.specs.declared.Fault.{Fault}
use Rattle.quantities.specs.declared.Ticks.{Ticks}
use Rattle.quantities.proofs.Sound.{sound_list_means}
use Rattle.windows.specs.declared.Answer.TheVariants.{Shown, NotShown, Refused}
use Rattle.windows.specs.Answer.{Judged, verdict, judged_after, judged_into, bounds_after}
use Rattle.windows.specs.Bound.{bounds_below}
use Rattle.windows.proofs.Into.{into_faulty, into_short, into_room, few_bounds}
use Rattle.lentrows.specs.Lent.{LentAnalysis, Filled, judged_over}
use Rattle.lentrows.specs.Lent.{RefusedWritesNothing, NotShownLeaves, ShownFills, LengthKept, OneOutcome}

-- lengths are told apart by their numbers
same_numbers : (xs ys : List Ticks) → numbers xs ≡ numbers ys → xs ≡ ys
same_numbers [] [] e = refl
same_numbers [] (y ∷ ys) e = absurd (cons-ne-nil _ _ (sym e))
same_numbers (x ∷ xs) [] e = absurd (cons-ne-nil _ _ e)
same_numbers (x ∷ xs) (y ∷ ys) e =
    ap (λ (n : ℕ). ticks n ∷ xs) (head-eq_of_cons-eq e)
    ∙ ap (λ (zs : List Ticks). y ∷ zs) (same_numbers xs ys (tail-eq_of_cons-eq e))

pub one_outcome : OneOutcome
one_outcome j before after after' answer answer' a b =
    (same_numbers after after' (a.leaves ∙ sym b.leaves), a.answers ∙ sym b.answers)

filled : (n : ℕ) (j : Judged) (before after : List ℕ) → length j.bounds ≡ n → after ≡ bounds_after j before
    → Filled n j.bounds before after
unfolding bounds_after
filled n j before after many e =
    record {
      many = many;
      first = rw (e, many) (take_at j.bounds (drop n before) n many);
      later = rw (e, many) (drop_at j.bounds (drop n before) n many);
    }

pub refused_writes_nothing : RefusedWritesNothing
unfolding judged_into judged_after bounds_after
refused_writes_nothing M rows before after fault = go (lent_fault M (length before) rows) refl
  where
    go : (found : Option Fault) → lent_fault M (length before) rows ≡ found
        → LentAnalysis (judged_over M rows before) before after (Refused fault) → after ≡ before
    go none q meets =
        absurd
        (verdict_not_refused (length rows) (bounds_below M [] rows) fault
        (sym (rw (q, judged_after) at meets.answers)))
    go (some f) q meets = rw (q, judged_after) at meets.leaves

pub shown_fills : ShownFills
unfolding judged_into judged_after verdict
shown_fills M rows before after = go (lent_fault M (length before) rows) refl
  where
    go : (found : Option Fault) → lent_fault M (length before) rows ≡ found
        → LentAnalysis (judged_over M rows before) before after Shown
        → Filled (length rows) (judged_over M rows before).bounds before after
    go none q meets =
        let all = verdict_shown (length rows) (bounds_below M [] rows) (sym (rw (q, judged_after) at meets.answers)) in
        filled (length rows) (judged_over M rows before) before after (rw (q, judged_after) all) meets.leaves
    go (some f) q meets = absurd (not_one (cc (rw (q, judged_after) at meets.answers)))

pub not_shown_leaves : NotShownLeaves
unfolding judged_into judged_after verdict
not_shown_leaves M rows before after number place = go (lent_fault M (length before) rows) refl
  where
    go : (found : Option Fault) → lent_fault M (length before) rows ≡ found
        → LentAnalysis (judged_over M rows before) before after (NotShown number place)
        → Filled (place - 1) (judged_over M rows before).bounds before after
    go none q meets =
        let one_less =
        verdict_not_shown (length rows) number place (bounds_below M [] rows)
        (sym (rw (q, judged_after) at meets.answers)) in
        filled (place - 1) (judged_over M rows before) before after (rw (q, judged_after) (omega (arith, one_less)))
        meets.leaves
    go (some f) q meets = absurd (not_one (cc (rw (q, judged_after) at meets.answers)))

-- There are no more bounds than entries, nor than a table has rows: none where the list is refused, else at most one per row.
pub bounds_fit : (M entries : ℕ) (rows : List Row)
    → (length (judged_into M entries rows).bounds ≤ row_capacity) × (length (judged_into M entries rows).bounds ≤ entries)
bounds_fit M entries rows = go (list_fault M rows) refl
  where
    go : (found : Option Fault) → list_fault M rows ≡ found
        → (length (judged_into M entries rows).bounds ≤ row_capacity) × (length (judged_into M entries rows).bounds ≤ entries)
    go (some fault) q = rw (into_faulty M entries rows fault q) (omega arith)
    go none q =
        let sound = (sound_list_means M rows).0 q in
        elim (dec_le (length rows) entries) [
          | yes room ↦
              rw (into_room M entries rows q room)
              (omega (arith, few_bounds M rows sound, sound.few_rows))
          | no short ↦ rw (into_short M entries rows q (omega arith)) (omega arith)
        ]

pub length_kept : LengthKept
unfolding bounds_after
length_kept M rows before after answer meets =
    let bounds = (judged_over M rows before).bounds in
    rw meets.leaves
    (omega (arith, (bounds_fit M (length before) rows).1, length-append bounds (drop (length bounds) before), length-drop (length bounds) before))
