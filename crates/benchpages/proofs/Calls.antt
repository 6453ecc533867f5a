-- The bench calls: what specs/Calls.antt says of the order of their checks, of 29 and of the gap holds.
use Prim.Native.Nat.{ℕ, ◌+◌, ◌-◌, ◌≤◌, ◌<◌}
use native.Mathlib.Decide.{dec_le}
use native.Mathlib.Omega.{arith}
use mathlib.Core.Path.{◌≡◌, refl, sym, ap, ◌∙◌}
use mathlib.Core.Bool.{Bool, true, false, ◌||◌}
use mathlib.Core.List.{List, [], ◌∷◌}
use mathlib.Core.Option.{some}
use lib.Dec.{eqb, ltb}
use lib.ListN.{length}
use borrow.Author.Tests.{ltb-false, lt-ltb, le-ltb, eqb-false, ne_eqb}
use Rattle.std.specs.Prelude.{Option, None, Some, Ok, Err}
use Rattle.laws.proofs.Tests.{or_false, not_one}
use Rattle.quantities.specs.declared.Instant.{Instant}
use Rattle.quantities.specs.Paper.{Paper, paper}
use Rattle.laws.specs.Checks.{Check, first_failing}
use Rattle.quantities.specs.Checks.{check}
use Rattle.laws.proofs.Checks.{first_failing_lem, first_found, first_passes, failing_behind, none_fails, none_found, told_has}
use Rattle.bench.specs.declared.Bench.{Bench}
use Rattle.bench.specs.State.{broken}
use Rattle.bench.specs.Refusal.{Outcome, too_soon, refusal_paper, outcome_paper}
use Rattle.bench.specs.Step.{Step, release}
use Rattle.bench.specs.History.{Call, releases, ticks, do_call}
use Rattle.bench.specs.Rules.{call_checks, TurnedAway}
use Rattle.bench.proofs.Rules.{refused_unchanged}
use Rattle.bench.proofs.Rules.{release_checks, tick_checks, call_turned_away as by_checks}
use Rattle.bench.proofs.Rules.{call_taken as taken_by_checks, refused_call_has_fault as refused_by_checks}
use Rattle.benchpages.specs.Calls.{rows_on, row_on, state_on, OnBoard}
use Rattle.benchpages.specs.Calls.{RecordBroken, released_later, Gives29, too_early, call_order}
use Rattle.benchpages.specs.Calls.{Refuses, RefusedChangesNothing, CallTurnedAway, CallTaken, RefusedCallHasFault}
use Rattle.benchpages.specs.Calls.{Ready, GapPermitted, FirstReleasePermitted}
use Rattle.benchpages.proofs.Broken.{broken_breaks, breaks_broken, unbroken}

-- Fewer than T ticks since an earlier release: now − at < T is now < at + T.
gap_alike : (now at gap : ℕ) → at ≤ now → ltb now (at + gap) ≡ ltb (now - at) gap
gap_alike now at gap past = go (dec_le (at + gap) now)
  where
    go : Dec (at + gap ≤ now) → ltb now (at + gap) ≡ ltb (now - at) gap
    go (yes h) = rw (le-ltb now (at + gap) h, le-ltb (now - at) gap (omega arith))
    go (no h) = rw (lt-ltb now (at + gap) (omega arith), lt-ltb (now - at) gap (omega arith))

-- The last release of a row is not after the present instant, where the record is not broken.
not_later : (b : Bench) (place : ℕ) (at : Instant) → broken b ≡ false → OnBoard b place
    → (state_on b place).last ≡ Some at → at.0 ≤ b.now.0
not_later b place at whole on q = elim (dec_le at.0 b.now.0) [
  | yes h ↦ h
  | no h ↦
      absurd (not_one (cc (breaks_broken b (released_later place at on q (omega arith)))))
]

-- So 22 fails as the function's own test does, where 29 and 20 pass.
early_soon : (b : Bench) (place : ℕ) → broken b ≡ false → OnBoard b place
    → (last : Option Instant) → (state_on b place).last ≡ last
    → too_early b.now.0 (row_on b place).t.0 last ≡ too_soon b.now.0 (row_on b place).t.0 last
unfolding too_soon
early_soon b place whole on None q = refl
early_soon b place whole on (Some at) q =
    gap_alike b.now.0 at.0 (row_on b place).t.0 (not_later b place at whole on q)

-- Of two lists of checks that begin alike, the same is the first to fail if it is so of the rest of them.
first_alike : (one : Check Paper) (rest other : List (Check Paper))
    → (one.fails ≡ false → first_failing rest ≡ first_failing other)
    → first_failing (one ∷ rest) ≡ first_failing (one ∷ other)
unfolding first_failing
first_alike one rest other later = go one.fails refl
  where
    go : (t : Bool) → one.fails ≡ t → first_failing (one ∷ rest) ≡ first_failing (one ∷ other)
    go true q = rw (q, first_failing)
    go false q = rw (q, first_failing) (later q)

-- The checks written out and those of the functions: the same is the first to fail.
abbrev from_demand : Bench → (place demand : ℕ) → (early : Bool) → List (Check Paper)
from_demand b place demand early =
    check 23 place (eqb demand 0 || ltb (row_on b place).c.0 demand)
    ∷ check 22 place early
    ∷ check 21 place (ltb 0 (state_on b place).left.0)
    ∷ []

on_board : (b : Bench) (place : ℕ) → (eqb place 0 || ltb (length (rows_on b)) place) ≡ false → OnBoard b place
on_board b place inside =
    let (low, high) = or_false (eqb place 0) (ltb (length (rows_on b)) place) inside in
    record {
      first = omega (arith, eqb-false place 0 low);
      last = ltb-false (length (rows_on b)) place high;
    }

pub first_of_call : (b : Bench) (call : Call) → first_failing (call_order b call) ≡ first_failing (call_checks b call)
first_of_call b (releases place demand) =
    rw (release_checks b place demand)
    (first_alike _ _ _ (λ whole. first_alike _ _ _ (λ inside.
    ap (λ (early : Bool). first_failing (from_demand b place demand early))
    (early_soon b place whole (on_board b place inside) (state_on b place).last refl))))
first_of_call b ticks = rw (tick_checks b) refl

refuses : {b : Bench} {number place : ℕ} {step : Step} → TurnedAway b number place step → Refuses b number place step
refuses t = record { on_paper = t.on_paper; none_end = t.none_end; same_bench = t.same_bench }

pub call_turned_away : CallTurnedAway
call_turned_away b call one first =
    let found = sym (first_of_call b call) ∙ first_found (call_order b call) one first in
    refuses (by_checks b call one (first_failing_lem (call_checks b call) one found))

pub call_taken : CallTaken
call_taken b call passed =
    let found = sym (first_of_call b call) ∙ none_found (call_order b call) passed in
    taken_by_checks b call (none_fails (call_checks b call) found)

pub refused_call_has_fault : RefusedCallHasFault
refused_call_has_fault b call why e =
    let fault = refused_by_checks b call why e in
    let found = first_of_call b call ∙ first_found (call_checks b call) (refusal_paper why) fault in
    first_failing_lem (call_order b call) (refusal_paper why) found

-- No check but the record's has number 29.
not_29 : (b : Bench) (call : Call) (one : Paper) → broken b ≡ false
    → first_failing (call_order b call) ≡ some one → one.number ≡ 29 → ⊥
not_29 b (releases place demand) one whole found =
    told_has (λ other. other.number ≡ 29 → ⊥) one _
    ((λ e. omega arith), ((λ e. omega arith), ((λ e. omega arith), ((λ e. omega arith), tt))))
    (sym (first_passes (check 29 0 (broken b)) _ whole) ∙ found)
not_29 b ticks one whole found =
    told_has (λ other. other.number ≡ 29 → ⊥) one _ ((λ e. omega arith), tt)
    (sym (first_passes (check 29 0 (broken b)) _ whole) ∙ found)

pub is_29 : (b : Bench) (call : Call) → RecordBroken b → Refuses b 29 0 (do_call b call)
unfolding first_failing
is_29 b (releases place demand) broke =
    call_turned_away b (releases place demand) (paper 29 0)
    (failing_behind [] _ (paper 29 0) (broken b) (breaks_broken b broke) tt)
is_29 b ticks broke =
    call_turned_away b ticks (paper 29 0) (failing_behind [] _ (paper 29 0) (broken b) (breaks_broken b broke) tt)

-- a call that gives 29 has a broken record
gave_29 : (b : Bench) (call : Call) (one : Paper) → first_failing (call_order b call) ≡ some one
    → one.number ≡ 29 → RecordBroken b
gave_29 b call one found is = go (broken b) refl
  where
    go : (t : Bool) → broken b ≡ t → RecordBroken b
    go true q = broken_breaks b q
    go false q = absurd (not_29 b call one q found is)

pub gives_29 : Gives29
unfolding outcome_paper
gives_29 b call = ((λ e. go (do_call b call).outcome refl e), (λ broke. (is_29 b call broke).on_paper))
  where
    go : (outcome : Outcome) → (do_call b call).outcome ≡ outcome
        → outcome_paper (do_call b call).outcome ≡ paper 29 0 → RecordBroken b
    go (Ok done) q e =
        let z : ◌≡◌ {A = ℕ} 0 29 = ap (λ (p : Paper). p.number) (sym (ap outcome_paper q) ∙ e) in
        absurd (omega arith)
    go (Err why) q e =
        let found = first_found (call_order b call) (refusal_paper why) (refused_call_has_fault b call why q) in
        gave_29 b call (refusal_paper why) found (ap (λ (p : Paper). p.number) (sym (ap outcome_paper q) ∙ e))

-- A row that is ready: of the checks of its release 22 alone can fail.
module _ (b : Bench) (place demand : ℕ) (ready : Ready b place demand) where
  abbrev early : Bool
  early = too_early b.now.0 (row_on b place).t.0 (state_on b place).last

  place_passes : (eqb place 0 || ltb (length (rows_on b)) place) ≡ false
  place_passes =
      let low = ne_eqb place 0 (λ e. omega (arith, ready.on_board.first)) in
      rw (low, le-ltb (length (rows_on b)) place ready.on_board.last)

  demand_passes : (eqb demand 0 || ltb (row_on b place).c.0 demand) ≡ false
  demand_passes =
      let some_demand = ne_eqb demand 0 (λ e. omega (arith, ready.some_demand)) in
      rw (some_demand, le-ltb (row_on b place).c.0 demand ready.fits)

  ready_taken : early ≡ false → (release b place demand).outcome ≡ Ok tt
  ready_taken in_gap =
      let over = le-ltb 0 (state_on b place).left.0 (omega (arith, ready.over)) in
      call_taken b (releases place demand)
      (unbroken b ready.whole, (place_passes, (demand_passes, (in_gap, (over, tt)))))

  ready_22 : early ≡ true → Refuses b 22 place (release b place demand)
  ready_22 too_early_here =
      call_turned_away b (releases place demand) (paper 22 place)
      (failing_behind
      (check 29 0 (broken b)
      ∷ check 20 place (eqb place 0 || ltb (length (rows_on b)) place)
      ∷ check 23 place (eqb demand 0 || ltb (row_on b place).c.0 demand)
      ∷ [])
      (check 21 place (ltb 0 (state_on b place).left.0) ∷ [])
      (paper 22 place) early too_early_here
      (unbroken b ready.whole, (place_passes, (demand_passes, tt))))

-- a call that is turned away is not taken
turned_not_taken : (b : Bench) (number place : ℕ) (step : Step) → 0 < number → Refuses b number place step
    → step.outcome ≡ Ok tt → ⊥
unfolding outcome_paper
turned_not_taken b number place step h turned e =
    let z : 0 ≡ number = ap (λ (p : Paper). p.number) (sym (ap outcome_paper e) ∙ turned.on_paper) in omega arith

pub gap_permitted : GapPermitted
gap_permitted b place demand at ready q =
    (((λ e. let h = there e in omega arith), (λ h. late_enough (omega arith))), turned)
  where
    turned : b.now.0 < at.0 + (row_on b place).t.0 → Refuses b 22 place (release b place demand)
    turned h = ready_22 b place demand ready (rw q (lt-ltb b.now.0 (at.0 + (row_on b place).t.0) h))

    late_enough : at.0 + (row_on b place).t.0 ≤ b.now.0 → (release b place demand).outcome ≡ Ok tt
    late_enough h =
        ready_taken b place demand ready (rw q (le-ltb b.now.0 (at.0 + (row_on b place).t.0) h))

    there : (release b place demand).outcome ≡ Ok tt → at.0 + (row_on b place).t.0 ≤ b.now.0
    there e = elim (dec_le (at.0 + (row_on b place).t.0) b.now.0) [
      | yes h ↦ h
      | no h ↦
          absurd (turned_not_taken b 22 place (release b place demand) (omega arith) (turned (omega arith)) e)
    ]

pub first_release_permitted : FirstReleasePermitted
first_release_permitted b place demand ready q = ready_taken b place demand ready (rw q refl)

pub refused_changes_nothing : RefusedChangesNothing
refused_changes_nothing = refused_unchanged
