-- The shared words mean what specs/Words.antt says.
use Prim.Native.Nat.{ℕ, zero, suc, ◌<◌}
use native.Mathlib.Omega.{arith}
use mathlib.Core.Path.{◌≡◌, refl, sym, ap}
use mathlib.Core.Logic.{inl, inr, ⊎_elim}
use mathlib.Core.Bool.{true, false}
use mathlib.Core.List.{List, [], ◌∷◌, ◌++◌}
use lib.ListN.{length, get_or}
use Rattle.laws.specs.Each.{Each}
use Rattle.laws.specs.Member.{Member}
use Rattle.laws.proofs.Lists.{each_at}
use Rattle.laws.proofs.Permuted.{permuted_back, permuted_length, permuted_member}
use Rattle.laws.specs.Checks.{Check, NoneFails, FirstFailing}
use Rattle.quantities.specs.Checks.{check}
use Rattle.quantities.specs.Paper.{Paper, checked_paper}
use Rattle.windows.specs.Answer.{answer_paper}
use Rattle.sheet.specs.Reader.{verdict_paper}
use Rattle.rowpages.specs.Words.{FirstAt, FirstMeans, EachMeans, StandsIn, MemberMeans, PermutedMeans}
use Rattle.rowpages.specs.Words.{NothingRefused, WordsMean}

-- The first check that fails, from the front.
abbrev blank : Check Paper
blank = check 0 0 false

abbrev failed : Paper → Check Paper
failed told = check told.number told.place true

behind : (before : List (Check Paper)) (told : Paper) (after : List (Check Paper)) → NoneFails before
    → FirstAt (before ++ failed told ∷ after) told
behind [] told after passed =
    record { index = 0; within = omega arith; stands = refl; passed = λ earlier h. absurd (omega arith) }
behind (head ∷ before) told after passed = later (behind before told after passed.1)
  where
    at : (tail : FirstAt (before ++ failed told ∷ after) told) (earlier : ℕ) → earlier < suc tail.index
        → (get_or (head ∷ (before ++ failed told ∷ after)) earlier blank).fails ≡ false
    at tail zero h = passed.0
    at tail (suc earlier) h = tail.passed earlier (omega arith)

    later : FirstAt (before ++ failed told ∷ after) told → FirstAt (head ∷ (before ++ failed told ∷ after)) told
    later tail =
        record {
          index = suc tail.index;
          within = omega (arith, tail.within);
          stands = tail.stands;
          passed = at tail;
        }

from_front : (checks : List (Check Paper)) (told : Paper) (index : ℕ) → index < length checks
    → get_or checks index blank ≡ failed told
    → ((earlier : ℕ) → earlier < index → (get_or checks earlier blank).fails ≡ false)
    → FirstFailing checks told
from_front [] told index within stands passed = absurd (omega arith)
from_front (head ∷ rest) told zero within stands passed =
    record { before = []; after = rest; stands = ap (λ (c : Check Paper). c ∷ rest) stands; passed = tt }
from_front (head ∷ rest) told (suc index) within stands passed =
    let tail = from_front rest told index (omega arith) stands (λ earlier h. passed (suc earlier) (omega arith)) in
    record {
      before = head ∷ tail.before;
      after = tail.after;
      stands = ap (λ (cs : List (Check Paper)). head ∷ cs) tail.stands;
      passed = (passed 0 (omega arith), tail.passed);
    }

first_at : (checks : List (Check Paper)) (told : Paper) → FirstFailing checks told → FirstAt checks told
first_at checks told first = rw first.stands (behind first.before told first.after first.passed)

first_failing_lem : (checks : List (Check Paper)) (told : Paper) → FirstAt checks told → FirstFailing checks told
first_failing_lem checks told first =
    from_front checks told first.index first.within first.stands first.passed

first_means : FirstMeans
first_means =
    record {
      failing = λ checks told. (first_at checks told, first_failing_lem checks told);
      parts = λ number place fails. (refl, refl, refl);
      on_paper = λ number place. (refl, refl);
    }

nothing_refused : NothingRefused
unfolding answer_paper verdict_paper checked_paper
nothing_refused = record { of_a_list = refl; of_a_sheet = refl; of_a_table = refl }

-- Each, and a member, by index.
each_by_index : (A : Type 0) (P : A → Type 0) (list : List A) (none : A)
    → ((i : ℕ) → i < length list → P (get_or list i none)) → Each P list
each_by_index A P [] none at = tt
each_by_index A P (x ∷ list) none at =
    (at 0 (omega arith), each_by_index A P list none (λ i h. at (suc i) (omega arith)))

each_means : EachMeans
each_means A P list none = (λ each i h. each_at P list i none h each, each_by_index A P list none)

member_stands : (A : Type 0) (a : A) (list : List A) (none : A) → Member a list → StandsIn A a list none
member_stands A a [] none m = absurd m
member_stands A a (x ∷ list) none m =
    ⊎_elim
    (λ (e : a ≡ x). record { index = 0; within = omega arith; is = sym e })
    (λ (t : Member a list).
    let s = member_stands A a list none t in
    record { index = suc s.index; within = omega (arith, s.within); is = s.is })
    m

stands_member : (A : Type 0) (a : A) (list : List A) (none : A) (index : ℕ) → index < length list
    → get_or list index none ≡ a → Member a list
stands_member A a [] none index within is = absurd (omega arith)
stands_member A a (x ∷ list) none zero within is = inl (sym is)
stands_member A a (x ∷ list) none (suc index) within is = inr (stands_member A a list none index (omega arith) is)

member_means : MemberMeans
member_means A a list none =
    (member_stands A a list none, λ s. stands_member A a list none s.index s.within s.is)

permuted_means : PermutedMeans
permuted_means A list other p = (permuted_length p, λ a. (permuted_member a p, permuted_member a (permuted_back p)))

pub words_mean : WordsMean
words_mean =
    record { first = first_means; nothing_refused = nothing_refused; each = each_means; member = member_means; permuted = permuted_means }
