-- Rows below make no difference to serving: two runs that agree down to place k go on alike there, whatever happens below.
use Prim.Native.Nat.{ℕ, suc, ◌-◌, ◌≤◌, ◌<◌}
use native.Mathlib.Omega.{arith}
use native.Mathlib.Nat.{zero-add}
use mathlib.Core.Path.{◌≡◌, refl, sym, ap, ◌∙◌}
use mathlib.Core.Bool.{Bool, true, false, ◌||◌}
use mathlib.Core.List.{List, [], ◌∷◌}
use mathlib.Core.Option.{some}
use lib.Dec.{eqb, leb, ltb}
use lib.ListN.{length, get_or, take}
use lib.Seq.{get_or-take, take-take, take-set-lt, take-set-le}
use borrow.Author.Tests.{lt-ltb, le-ltb, ltb-true, leb-true, leb-false, ne_eqb}
use Rattle.std.specs.Prelude.{Ok}
use Rattle.laws.specs.Checks.{Check, check_for, first_failing}
use Rattle.laws.proofs.Tests.{and_true, not_one}
use Rattle.quantities.specs.Row.{cost, no_row}
use Rattle.quantities.specs.Table.{rows_of}
use Rattle.quantities.specs.declared.Row.{Row}
use Rattle.quantities.specs.declared.Table.{Table}
use Rattle.bench.specs.declared.Bench.{Bench}
use Rattle.bench.specs.declared.Refusal.{Refusal}
use Rattle.bench.specs.declared.Refusal.TheVariants.{NoPlace, Unfinished, TooSoon, WrongDemand, BrokenRecord}
use Rattle.bench.specs.State.{idle, work, rows, row_at, broken}
use Rattle.bench.specs.Refusal.{soon_at, full_at, release_tests, tick_tests}
use Rattle.bench.specs.Serving.{units}
use Rattle.bench.specs.Step.{Step, empty_bench, opened, fresh, started, served, moved, taken}
use Rattle.bench.specs.History.{Call, releases, ticks, call_tests, do_call, after, concerns, calls_to, finishes_to}
use Rattle.bench.specs.History.{heard_of, heard, SameRun}
use Rattle.bench.proofs.State.{whole_unbroken}
use Rattle.bench.proofs.Steps.{refused_step_lem, taken_step_lem, CallCase, refused, released, ticked, call_case}
use Rattle.bench.proofs.Kept.{Kept, kept_call, kept_opened, opened_empty}
use Rattle.bench.proofs.Balance.{same_rows}
use Rattle.bench.proofs.Prefix.{take_units, take_worked, take_finished}

-- What two benches agree on down to place k.
pub record Agree (k : ℕ) (b b' : Bench) : Type 0 where
  pub cores : b.cores ≡ b'.cores
  pub now : b.now.0 ≡ b'.now.0
  pub rows : take k (rows b) ≡ take k (rows b')
  pub states : take k b.states ≡ take k b'.states

-- What the law rests on: something good that holds of a bench, that calls keep, under which no record is broken, and
-- under which 21 is due on both of two benches that agree, or on neither, where 22 is not.
pub record Steady (Good : Bench → Type 0) : Type 0 where
  pub whole : (b : Bench) → Good b → broken b ≡ false
  pub call : (b : Bench) (call : Call) → Good b → Good (do_call b call).bench
  pub same_full : (k : ℕ) (b b' : Bench) → Good b → Good b' → Agree k b b' → (place : ℕ) → 0 < place → place ≤ k
      → soon_at b place ≡ false → full_at b place ≡ full_at b' place

-- Two good benches that have k rows and agree down to place k.
pub record Alike (Good : Bench → Type 0) (k : ℕ) (b b' : Bench) : Type 0 where
  pub agree : Agree k b b'
  pub good : Good b
  pub good' : Good b'
  pub tall : k ≤ length (rows b)
  pub tall' : k ≤ length (rows b')

-- lists that agree down to k agree at each place down to k
same_at : {A : Type 0} (k place : ℕ) (d : A) (xs ys : List A) → 0 < place → place ≤ k → take k xs ≡ take k ys → get_or xs (place - 1) d ≡ get_or ys (place - 1) d
same_at k place d xs ys low high e =
    sym (get_or-take k xs (place - 1) d (omega arith)) ∙ ap (λ zs. get_or zs (place - 1) d) e ∙ get_or-take k ys (place - 1) d (omega arith)

-- the tests of a release behind 29 and 20, and that 21 makes no difference where 22 is due
abbrev tests_from : (place : ℕ) (t23 t22 t21 : Bool) → List (Check Refusal)
tests_from place t23 t22 t21 =
    check_for BrokenRecord false
    ∷ check_for (NoPlace place) false
    ∷ check_for (WrongDemand place) t23
    ∷ check_for (TooSoon place) t22
    ∷ check_for (Unfinished place) t21
    ∷ []

same_first : (place : ℕ) (t23 t22 t21 u21 : Bool) → (t22 ≡ false → t21 ≡ u21)
    → first_failing (tests_from place t23 t22 t21) ≡ first_failing (tests_from place t23 t22 u21)
unfolding first_failing
same_first place true t22 t21 u21 same = refl
same_first place false true t21 u21 same = refl
same_first place false false t21 u21 same = ap (λ t. first_failing (tests_from place false false t)) (same refl)

module _ {Good : Bench → Type 0} (steady : Steady Good) (k : ℕ) (b b' : Bench) (a : Alike Good k b b') where
  -- the same tests are passed
  same_release_tests : (place demand : ℕ) → 0 < place → place ≤ k
      → first_failing (release_tests b place demand) ≡ first_failing (release_tests b' place demand)
  unfolding release_tests
  same_release_tests place demand low high =
      let n : (place ≡ 0 → ⊥) = λ e. omega arith in
      let h : place ≤ length (rows b) = omega (arith, a.tall) in
      let h' : place ≤ length (rows b') = omega (arith, a.tall') in
      let row = same_at k place no_row (rows b) (rows b') low high a.agree.rows in
      let soon : soon_at b place ≡ soon_at b' place =
      rw (row, same_at k place idle b.states b'.states low high a.agree.states, a.agree.now) in
      let full = steady.same_full k b b' a.good a.good' a.agree place low high in
      let demanded : Row → Bool = λ r. eqb demand 0 || ltb (cost r) demand in
      let first = same_first place (demanded (row_at b place)) (soon_at b place) (full_at b place) (full_at b' place) full in
      let there : release_tests b place demand
      ≡ tests_from place (demanded (row_at b place)) (soon_at b place) (full_at b place) =
      rw (steady.whole b a.good, ne_eqb place 0 n, le-ltb (length (rows b)) place h) in
      let here : release_tests b' place demand
      ≡ tests_from place (demanded (row_at b' place)) (soon_at b' place) (full_at b' place) =
      rw (steady.whole b' a.good', ne_eqb place 0 n, le-ltb (length (rows b')) place h') in
      ap first_failing there
      ∙ first
      ∙ ap (λ r. first_failing (tests_from place (demanded r) (soon_at b place) (full_at b' place))) row
      ∙ ap (λ t. first_failing (tests_from place (demanded (row_at b' place)) t (full_at b' place))) soon
      ∙ sym (ap first_failing here)

  same_tick_tests : first_failing (tick_tests b) ≡ first_failing (tick_tests b')
  unfolding tick_tests first_failing
  same_tick_tests = rw (steady.whole b a.good, steady.whole b' a.good', a.agree.now)

  same_tests : (call : Call) → concerns k call ≡ true
      → first_failing (call_tests b call) ≡ first_failing (call_tests b' call)
  unfolding call_tests concerns
  same_tests (releases place demand) c =
      let (low, high) = and_true (ltb 0 place) (leb place k) c in
      same_release_tests place demand (ltb-true 0 place low) (leb-true place k high)
  same_tests ticks c = same_tick_tests

  -- a poll that starts at a place down to k
  agree_started : (place demand : ℕ) → 0 < place → place ≤ k → Agree k (started b place demand) (started b' place demand)
  unfolding started
  agree_started place demand low high =
      let i : place - 1 < k = omega arith in
      record {
        cores = a.agree.cores;
        now = a.agree.now;
        rows = a.agree.rows;
        states = rw (take-set-lt k b.states (place - 1) (fresh b.now.0 demand) i, take-set-lt k b'.states (place - 1) (fresh b'.now.0 demand) i, a.agree.states, a.agree.now);
      }

  -- a poll that starts below
  agree_below : (place demand : ℕ) → k < place → Agree k (started b place demand) b'
  unfolding started
  agree_below place demand h =
      record {
        cores = a.agree.cores;
        now = a.agree.now;
        rows = a.agree.rows;
        states = rw (take-set-le k b.states (place - 1) (fresh b.now.0 demand) (omega arith)) a.agree.states;
      }

-- the units of the rows down to k are given by their states alone
served_to : (k : ℕ) (b : Bench) → k ≤ length (rows b) → take k (served b) ≡ units b.cores (take k b.states)
unfolding served
served_to k b h = rw (take_units, take-take k (length (rows b)) b.states h)

module _ {Good : Bench → Type 0} (steady : Steady Good) (k : ℕ) (b b' : Bench) (a : Alike Good k b b') where
  same_served : take k (served b) ≡ take k (served b')
  same_served = rw (served_to k b a.tall, served_to k b' a.tall', a.agree.cores, a.agree.states)

  agree_moved : Agree k (moved b) (moved b')
  unfolding moved
  agree_moved =
      record {
        cores = a.agree.cores;
        now = ap suc a.agree.now;
        rows = a.agree.rows;
        states = rw (take_worked, take_worked, same_served, a.agree.states);
      }

  same_finished : finishes_to k (taken b).finishes ≡ finishes_to k (taken b').finishes
  unfolding taken
  same_finished =
      rw (take_finished k (suc b.now.0) 0 k (zero-add k) (served b) b.states, take_finished k (suc b'.now.0) 0 k (zero-add k) (served b') b'.states, same_served, a.agree.states, a.agree.now)

  -- A call that concerns the rows down to k leaves them alike and says the same of them.
  concerned_agree : (call : Call) → concerns k call ≡ true
      → Agree k (do_call b call).bench (do_call b' call).bench
      × (heard_of k (do_call b call) ≡ heard_of k (do_call b' call))
  unfolding concerns taken
  concerned_agree call c = at (call_case b call) c (same_tests steady k b b' a call c)
    where
      at : {one : Call} {step : Step} → CallCase b one step → concerns k one ≡ true
          → first_failing (call_tests b one) ≡ first_failing (call_tests b' one)
          → Agree k step.bench (do_call b' one).bench × (heard_of k step ≡ heard_of k (do_call b' one))
      at {one} (refused why q) c same = rw (refused_step_lem b' one why (sym same ∙ q)) (a.agree, refl)
      at (released {place} {demand} q may) c same =
          let (low, high) = and_true (ltb 0 place) (leb place k) c in
          rw (taken_step_lem b' (releases place demand) (sym same ∙ q))
          (agree_started steady k b b' a place demand (ltb-true 0 place low) (leb-true place k high), refl)
      at (ticked q may) c same =
          rw (taken_step_lem b' ticks (sym same ∙ q))
          (agree_moved, ap (λ polls. record { outcome = Ok tt; finishes = polls }) same_finished)

  -- A call that does not concern them leaves them as they were.
  unconcerned_agree : (call : Call) → concerns k call ≡ false → Agree k (do_call b call).bench b'
  unfolding concerns
  unconcerned_agree call c = at (call_case b call) c
    where
      at : {one : Call} {step : Step} → CallCase b one step → concerns k one ≡ false → Agree k step.bench b'
      at (refused why q) c = a.agree
      at (released {place} {demand} q may) c =
          let past : leb place k ≡ false = rw (lt-ltb 0 place may.low) at c in
          agree_below steady k b b' a place demand (leb-false place k past)
      at (ticked q may) c = absurd (not_one cc)

-- One call, and whole histories, of which the second has only what concerns the rows down to k.
tall_call : (k : ℕ) (b : Bench) (call : Call) → k ≤ length (rows b) → k ≤ length (rows (do_call b call).bench)
tall_call k b call h = rw (same_rows b call) h

unconcerned_alike : {Good : Bench → Type 0} (steady : Steady Good) (k : ℕ) (b b' : Bench) (call : Call) → concerns k call ≡ false → Alike Good k b b' → Alike Good k (do_call b call).bench b'
unconcerned_alike {Good} steady k b b' call c a =
    record {
      agree = unconcerned_agree steady k b b' a call c;
      good = steady.call b call a.good;
      good' = a.good';
      tall = tall_call k b call a.tall;
      tall' = a.tall';
    }

concerned_alike : {Good : Bench → Type 0} (steady : Steady Good) (k : ℕ) (b b' : Bench) (call : Call) → concerns k call ≡ true → Alike Good k b b'
    → Alike Good k (do_call b call).bench (do_call b' call).bench × (heard_of k (do_call b call) ≡ heard_of k (do_call b' call))
concerned_alike {Good} steady k b b' call c a = let (same, told) = concerned_agree steady k b b' a call c in (
  record {
    agree = same;
    good = steady.call b call a.good;
    good' = steady.call b' call a.good';
    tall = tall_call k b call a.tall;
    tall' = tall_call k b' call a.tall';
  },
  told,
)

pub history_alike : {Good : Bench → Type 0} (steady : Steady Good) (k : ℕ) (calls : List Call) (b b' : Bench) → Alike Good k b b'
    → Alike Good k (after b calls) (after b' (calls_to k calls)) × (heard k b calls ≡ heard k b' (calls_to k calls))
unfolding after calls_to heard
history_alike {Good} steady k [] b b' a = (a, refl)
history_alike {Good} steady k (call ∷ calls) b b' a = go (concerns k call) refl (history_alike steady k calls)
  where
    Result : Type 0
    Result = Alike Good k (after b (call ∷ calls)) (after b' (calls_to k (call ∷ calls))) × (heard k b (call ∷ calls) ≡ heard k b' (calls_to k (call ∷ calls)))

    go : (t : Bool) → concerns k call ≡ t
        → ((c c' : Bench) → Alike Good k c c' → Alike Good k (after c calls) (after c' (calls_to k calls)) × (heard k c calls ≡ heard k c' (calls_to k calls)))
        → Result
    go true q more =
        let (same, told) = concerned_alike steady k b b' call q a in
        let (rest, told') = more (do_call b call).bench (do_call b' call).bench same in
        rw (q, calls_to, heard, after) (rest, rw (q, told, told'))
    go false q more =
        let (rest, told') = more (do_call b call).bench b' (unconcerned_alike steady k b b' call q a) in
        rw (q, calls_to, heard, after) (rest, told')

-- Two benches that are alike down to place k, with histories whose calls that concern those rows agree one by one.
pub alike_runs : {Good : Bench → Type 0} (steady : Steady Good) (k : ℕ) (b b' : Bench) → Alike Good k b b'
    → (calls calls' : List Call) → calls_to k calls ≡ calls_to k calls' → SameRun k b b' calls calls'
alike_runs {Good} steady k b b' a calls calls' e =
    let same : Agree k b' b' = record { cores = refl; now = refl; rows = refl; states = refl } in
    let self : Alike Good k b' b'
    = record { agree = same; good = a.good'; good' = a.good'; tall = a.tall'; tall' = a.tall' } in
    let (one, told) = rw e at (history_alike steady k calls b b' a) in
    let (two, told') = history_alike steady k calls' b' b' self in
    record {
      instant = one.agree.now ∙ sym two.agree.now;
      states = one.agree.states ∙ sym two.agree.states;
      answers = told ∙ sym told';
    }

-- A well kept bench is such: 21 is decided by the states, on which the benches agree.
pub kept_steady : Steady Kept
kept_steady =
    record {
      whole = λ b kept. whole_unbroken b kept.whole;
      call = kept_call;
      same_full = λ k b b' kept kept' agree place low high soon.
          ap (λ state. ltb 0 (work state)) (same_at k place idle b.states b'.states low high agree.states);
    }

-- Rows below make no difference: opened on equal cores and tables that agree down to place k, whatever stands and happens below.
pub rows_below : (k cores : ℕ) (table table' : Table) (b b' : Bench) → opened cores table ≡ some b → opened cores table' ≡ some b'
    → k ≤ length (rows_of table) → k ≤ length (rows_of table') → take k (rows_of table) ≡ take k (rows_of table')
    → (calls calls' : List Call) → calls_to k calls ≡ calls_to k calls' → SameRun k b b' calls calls'
unfolding empty_bench
rows_below k cores table table' b b' o o' tall tall' e =
    let same = (opened_empty cores table b o).1 in
    let same' = (opened_empty cores table' b' o').1 in
    let kept = rw same at (kept_opened cores table b o) in
    let kept' = rw same' at (kept_opened cores table' b' o') in
    rw (same, same')
    (alike_runs kept_steady k (empty_bench cores table) (empty_bench cores table')
    (record { agree = record { cores = refl; now = refl; rows = e; states = refl }; good = kept; good' = kept'; tall = tall; tall' = tall' }))
