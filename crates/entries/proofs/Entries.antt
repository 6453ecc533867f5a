-- Laws of a sheet's entries: one by one from the top, whether a priority is used, and a new entry on its way to its place.
use Prim.Native.Nat.{ℕ, suc, ◌+◌, ◌≤◌, ◌<◌}
use native.Mathlib.Numerals.{add-one}
use native.Mathlib.Omega.{arith}
use mathlib.Core.Path.{◌≡◌, refl, ap}
use mathlib.Core.Bool.{Bool, true, ◌||◌}
use mathlib.Core.List.{List, [], ◌∷◌, ◌++◌, append_assoc}
use Rattle.std.specs.List.{list_any}
use lib.Dec.{eqb}
use lib.ListN.{length, get_or, take, drop, set}
use lib.Seq.{take-suc, take-suc-set, drop-set-lt, take-set-lt, set_split, slice, slice-cons, slice_empty}
use borrow.Author.Tests.{eq-eqb, ne_eqb, lt-ltb, le-ltb}
use Rattle.entries.specs.Entries.{no_entry, used, inserted}
use Rattle.records.specs.declared.RowFields.{RowFields}

-- Whether a priority is used: the first entry has it, or those below it decide.
module _ (priority : ℕ) (entry : RowFields) (entries : List RowFields) where
  pub used_here : entry.priority ≡ priority → used priority (entry ∷ entries) ≡ true
  unfolding used
  used_here e = simp (eq-eqb entry.priority priority e)

  pub used_below : (entry.priority ≡ priority → ⊥) → used priority (entry ∷ entries) ≡ used priority entries
  unfolding used
  used_below other = simp (ne_eqb entry.priority priority other)

-- so it is used where any entry has it
pub used_is : (priority : ℕ) (entries : List RowFields) → used priority entries ≡ list_any (λ entry. eqb entry.priority priority) entries
unfolding used
used_is priority [] = refl
used_is priority (entry ∷ entries) = ap (λ (b : Bool). eqb entry.priority priority || b) (used_is priority entries)

-- Entries in which the first i of n have been passed, with `carried` still to go to its place among the others.
unfoldable pub passing : ℕ → ℕ → List RowFields → RowFields → List RowFields
passing n i entries carried = take i entries ++ (inserted carried (slice i n entries) ++ drop (suc n) entries)

module _ (n i : ℕ) (entries : List RowFields) (carried : RowFields) (h : i < n) (l : n < length entries) where
  -- an entry with no larger number stays where it is
  pub passing_stays : (get_or entries i no_entry).priority ≤ carried.priority
      → passing n (suc i) entries carried ≡ passing n i entries carried
  unfolding passing inserted
  passing_stays k =
      rw
      (take-suc entries i no_entry (omega arith), slice-cons i n entries no_entry h (omega arith))
      (simp (le-ltb carried.priority (get_or entries i no_entry).priority k, append_assoc))

  -- one with a larger number gives its place to the carried entry and goes on
  pub passing_goes : carried.priority < (get_or entries i no_entry).priority
      → passing n (suc i) (set entries i carried) (get_or entries i no_entry) ≡ passing n i entries carried
  unfolding passing inserted
  passing_goes k =
      let later : slice (suc i) n (set entries i carried) ≡ slice (suc i) n entries =
      rw (take-set-lt n entries i carried h) (drop-set-lt (suc i) (take n entries) i carried (omega arith)) in
      rw
      (take-suc-set entries i carried (omega arith), slice-cons i n entries no_entry h (omega arith))
      (simp (later, drop-set-lt (suc n) entries i carried (omega arith), lt-ltb carried.priority (get_or entries i no_entry).priority k, append_assoc))

-- past the last entry the carried one has its place
pub passing_end : (n : ℕ) (entries : List RowFields) (carried : RowFields) → n < length entries
    → set entries n carried ≡ passing n n entries carried
unfolding passing inserted
passing_end n entries carried l = rw (set_split entries n carried l, slice_empty n entries, inserted)

-- before the first entry nothing is passed
pub passing_start : (n : ℕ) (entries : List RowFields) (new : RowFields)
    → passing n 0 entries new ≡ inserted new (take n entries) ++ drop (n + 1) entries
unfolding passing
passing_start n entries new = rw add-one
