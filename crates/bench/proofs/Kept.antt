-- A bench that was opened is well kept, every call keeps it so, and then no call gives 29.
use Prim.Native.Nat.{ℕ, zero, suc, ◌-◌, ◌≤◌, ◌<◌}
use native.Mathlib.Omega.{arith}
use mathlib.Core.Path.{◌≡◌, refl, sym, ap, ◌∙◌}
use mathlib.Core.Bool.{false, ◌||◌}
use mathlib.Core.List.{List, [], ◌∷◌}
use mathlib.Core.Option.{Option as Maybe, none, some}
use lib.Dec.{ltb}
use lib.ListN.{length, get_or, set, replicate, length-set, length-replicate}
use borrow.Author.Tests.{le-ltb, ltb-false}
use Rattle.std.specs.Prelude.{Option, None, Some, Err}
use Rattle.laws.specs.Checks.{check_for, first_failing}
use Rattle.laws.proofs.Checks.{told_has, first_passes}
use Rattle.laws.proofs.Tests.{or_false, not_one}
use Rattle.quantities.specs.Limits.{row_capacity}
use Rattle.quantities.specs.Row.{cost, no_row}
use Rattle.quantities.specs.Table.{rows_of}
use Rattle.quantities.specs.Checks.{list_fault}
use Rattle.quantities.specs.declared.Row.{Row}
use Rattle.quantities.specs.declared.Fault.{Fault}
use Rattle.quantities.specs.declared.Table.{Table}
use Rattle.quantities.specs.declared.Instant.{Instant}
use Rattle.bench.specs.declared.RowState.{RowState}
use Rattle.bench.specs.declared.Bench.{Bench}
use Rattle.bench.specs.declared.Refusal.{Refusal}
use Rattle.bench.specs.declared.Refusal.TheVariants.{ClockEnd, BrokenRecord}
use Rattle.bench.specs.State.{last_instant, idle, work, rows, row_at, last_broken, row_broken, rows_broken, broken}
use Rattle.bench.specs.Refusal.{release_tests, tick_tests}
use Rattle.bench.specs.Serving.{after_units, worked}
use Rattle.bench.specs.Step.{Step, empty_bench, opened_after, opened, fresh, started, served, moved, taken, tick}
use Rattle.bench.specs.History.{Call, releases, ticks, call_tests, do_call, after}
use Rattle.bench.proofs.State.{Whole, whole_unbroken}
use Rattle.bench.proofs.Permitted.{MayRelease, MayTick, tick_24}
use Rattle.bench.proofs.Rows.{less_none}
use Rattle.bench.proofs.Units.{length_worked}
use Rattle.bench.proofs.Steps.{refused_step, refused_step_lem, CallCase, refused, released, ticked, call_case}

-- A well kept bench: its record is whole, and it has a state for each row that a table can hold.
pub record Kept (b : Bench) : Type 0 where
  pub whole : Whole b
  pub long : length b.states ≡ row_capacity

-- A row's state for which number 29 is not due.
pub record RowKept (now : ℕ) (row : Row) (state : RowState) : Type 0 where
  pub past : last_broken now state.last (work state) ≡ false
  pub fits : state.demand.0 ≤ cost row
  pub rest : work state ≤ state.demand.0

pub row_kept : (now : ℕ) (row : Row) (state : RowState) → row_broken now row state ≡ false → RowKept now row state
unfolding row_broken
row_kept now row state e =
    let (p, e1) = or_false (last_broken now state.last (work state)) (ltb (cost row) state.demand.0 || ltb state.demand.0 (work state)) e in
    let (f, r) = or_false (ltb (cost row) state.demand.0) (ltb state.demand.0 (work state)) e1 in
    record { past = p; fits = ltb-false (cost row) state.demand.0 f; rest = ltb-false state.demand.0 (work state) r }

pub row_unbroken : (now : ℕ) (row : Row) (state : RowState) → RowKept now row state → row_broken now row state ≡ false
unfolding row_broken
row_unbroken now row state k =
    rw (k.past, le-ltb (cost row) state.demand.0 k.fits, le-ltb state.demand.0 (work state) k.rest)

-- of the rows below, where all are in order
pub rows_below_kept : (now : ℕ) (row : Row) (rest : List Row) (state : RowState) (states : List RowState)
    → rows_broken now (row ∷ rest) (state ∷ states) ≡ false → RowKept now row state × (rows_broken now rest states ≡ false)
unfolding rows_broken
rows_below_kept now row rest state states e =
    let (h, t) = or_false (row_broken now row state) (rows_broken now rest states) e in
    (row_kept now row state h, t)

pub rows_unbroken : (now : ℕ) (row : Row) (rest : List Row) (state : RowState) (states : List RowState)
    → RowKept now row state → rows_broken now rest states ≡ false → rows_broken now (row ∷ rest) (state ∷ states) ≡ false
unfolding rows_broken
rows_unbroken now row rest state states k e = rw (row_unbroken now row state k, e)

-- the state of each row of a record in order
pub row_kept_at : (now : ℕ) (rs : List Row) (states : List RowState) (i : ℕ) → rows_broken now rs states ≡ false → i < length rs → i < length states
    → RowKept now (get_or rs i no_row) (get_or states i idle)
row_kept_at now [] states i e h l = absurd (omega arith)
row_kept_at now (row ∷ rest) [] i e h l = absurd (omega arith)
row_kept_at now (row ∷ rest) (s ∷ states) zero e h l = (rows_below_kept now row rest s states e).0
row_kept_at now (row ∷ rest) (s ∷ states) (suc i) e h l = row_kept_at now rest states i (rows_below_kept now row rest s states e).1 (omega arith) (omega arith)

-- Rows that were never released are in order,
idle_kept : (now : ℕ) (row : Row) → RowKept now row idle
unfolding last_broken
idle_kept now row = record { past = refl; fits = omega arith; rest = omega arith }

rows_idle : (now n : ℕ) (rs : List Row) → rows_broken now rs (replicate n idle) ≡ false
unfolding rows_broken
rows_idle now n [] = refl
rows_idle now zero (row ∷ rest) = refl
rows_idle now (suc n) (row ∷ rest) = rows_unbroken now row rest idle (replicate n idle) (idle_kept now row) (rows_idle now n rest)

-- so is a row with a new poll that fits its cost,
fresh_kept : (now demand : ℕ) (row : Row) → demand ≤ cost row → RowKept now row (fresh now demand)
unfolding last_broken
fresh_kept now demand row h = record { past = le-ltb now now (omega arith); fits = h; rest = omega arith }

rows_set : (now : ℕ) (rs : List Row) (states : List RowState) (i : ℕ) (state : RowState) → rows_broken now rs states ≡ false
    → RowKept now (get_or rs i no_row) state → rows_broken now rs (set states i state) ≡ false
unfolding rows_broken
rows_set now [] states i state e k = refl
rows_set now (row ∷ rest) [] i state e k = e
rows_set now (row ∷ rest) (s ∷ states) zero state e k = rows_unbroken now row rest state states k (rows_below_kept now row rest s states e).1
rows_set now (row ∷ rest) (s ∷ states) (suc i) state e k =
    let (h, t) = rows_below_kept now row rest s states e in
    rows_unbroken now row rest s (set states i state) h (rows_set now rest states i state t k)

-- and so are rows a tick later with less work.
last_later : (now u : ℕ) (last : Option Instant) (left : ℕ) → last_broken now last left ≡ false → last_broken (suc now) last (left - u) ≡ false
unfolding last_broken
last_later now u None left e = le-ltb 0 (left - u) (omega (arith, ltb-false 0 left e))
last_later now u (Some at) left e = le-ltb (suc now) at.0 (omega (arith, ltb-false now at.0 e))

less_kept : (now u : ℕ) (row : Row) (state : RowState) → RowKept now row state → RowKept (suc now) row (after_units u state)
unfolding after_units
less_kept now u row state k =
    record { past = last_later now u state.last (work state) k.past; fits = k.fits; rest = omega (arith, k.rest) }

later_kept : (now : ℕ) (row : Row) (state : RowState) → RowKept now row state → RowKept (suc now) row state
later_kept now row state k = rw (less_none state) at (less_kept now 0 row state k)

rows_later : (now : ℕ) (rs : List Row) (us : List ℕ) (states : List RowState) → rows_broken now rs states ≡ false → rows_broken (suc now) rs (worked us states) ≡ false
unfolding rows_broken worked
rows_later now [] us states e = refl
rows_later now (row ∷ rest) [] [] e = refl
rows_later now (row ∷ rest) (u ∷ us) [] e = refl
rows_later now (row ∷ rest) [] (s ∷ states) e =
    let (h, t) = rows_below_kept now row rest s states e in
    rows_unbroken (suc now) row rest s states (later_kept now row s h) (rows_later now rest [] states t)
rows_later now (row ∷ rest) (u ∷ us) (s ∷ states) e =
    let (h, t) = rows_below_kept now row rest s states e in
    rows_unbroken (suc now) row rest (after_units u s) (worked us states) (less_kept now u row s h) (rows_later now rest us states t)

-- The bench: opened, after a release, after a tick.
pub kept_empty : (cores : ℕ) (table : Table) → list_fault cores (rows_of table) ≡ none → Kept (empty_bench cores table)
unfolding empty_bench
kept_empty cores table sound =
    record {
      whole = record { sound = sound; in_time = omega arith; in_order = rows_idle 0 row_capacity (rows_of table) };
      long = length-replicate row_capacity idle;
    }

-- an opened bench is the empty bench of a table without fault
pub opened_empty : (cores : ℕ) (table : Table) (b : Bench) → opened cores table ≡ some b → (list_fault cores (rows_of table) ≡ none) × (b ≡ empty_bench cores table)
unfolding opened opened_after
opened_empty cores table b e = at (list_fault cores (rows_of table)) refl e
  where
    at : (found : Maybe Fault) → list_fault cores (rows_of table) ≡ found → opened_after found cores table ≡ some b
        → (list_fault cores (rows_of table) ≡ none) × (b ≡ empty_bench cores table)
    at none q e = (q, cc)
    at (some fault) q e = absurd (not_one cc)

pub kept_opened : (cores : ℕ) (table : Table) (b : Bench) → opened cores table ≡ some b → Kept b
kept_opened cores table b e = let (sound, same) = opened_empty cores table b e in rw same (kept_empty cores table sound)

pub kept_started : (b : Bench) (place demand : ℕ) → Kept b → MayRelease b place demand → Kept (started b place demand)
unfolding started
kept_started b place demand k m =
    record {
      whole = record {
        sound = k.whole.sound;
        in_time = k.whole.in_time;
        in_order = rows_set b.now.0 (rows b) b.states (place - 1) (fresh b.now.0 demand) k.whole.in_order
            (fresh_kept b.now.0 demand (row_at b place) m.fits);
      };
      long = rw length-set k.long;
    }

pub kept_moved : (b : Bench) → Kept b → MayTick b → Kept (moved b)
unfolding moved
kept_moved b k m =
    record {
      whole = record {
        sound = k.whole.sound;
        in_time = omega (arith, k.whole.in_time, m.clock);
        in_order = rows_later b.now.0 (rows b) (served b) b.states k.whole.in_order;
      };
      long = rw length_worked k.long;
    }

-- each call keeps it,
pub kept_call : (b : Bench) (call : Call) → Kept b → Kept (do_call b call).bench
unfolding taken
kept_call b call k = at (call_case b call)
  where
    at : {one : Call} {step : Step} → CallCase b one step → Kept step.bench
    at (refused why q) = k
    at (released {place} {demand} q may) = kept_started b place demand k may
    at (ticked q may) = kept_moved b k may

-- and so does each history.
pub kept_after : (calls : List Call) (b : Bench) → Kept b → Kept (after b calls)
unfolding after
kept_after [] b k = k
kept_after (call ∷ calls) b k = kept_after calls (do_call b call).bench (kept_call b call k)

-- two refusals differ where their equality would make 0 and 1 equal
differs : {why other : Refusal} → (why ≡ other → ◌≡◌ {A = ℕ} 0 1) → why ≡ other → ⊥
differs f q = let z = f q in omega arith

release_not_29 : (b : Bench) (place demand : ℕ) → broken b ≡ false → first_failing (release_tests b place demand) ≡ some BrokenRecord → ⊥
unfolding release_tests
release_not_29 b place demand w e =
    told_has (λ why. why ≡ BrokenRecord → ⊥) BrokenRecord _
    (differs (λ q. cc), (differs (λ q. cc), (differs (λ q. cc), (differs (λ q. cc), tt))))
    (sym (first_passes (check_for BrokenRecord (broken b)) _ w) ∙ e) refl

tick_not_29 : (b : Bench) → broken b ≡ false → first_failing (tick_tests b) ≡ some BrokenRecord → ⊥
unfolding tick_tests
tick_not_29 b w e =
    told_has (λ why. why ≡ BrokenRecord → ⊥) BrokenRecord _ (differs (λ q. cc), tt)
    (sym (first_passes (check_for BrokenRecord (broken b)) _ w) ∙ e) refl

call_not_29 : (b : Bench) (call : Call) → broken b ≡ false → first_failing (call_tests b call) ≡ some BrokenRecord → ⊥
unfolding call_tests
call_not_29 b (releases place demand) = release_not_29 b place demand
call_not_29 b ticks = tick_not_29 b

-- A call on a well kept bench never gives 29.
pub kept_no_29 : (b : Bench) (call : Call) → Kept b → (do_call b call).outcome ≡ Err BrokenRecord → ⊥
unfolding taken
kept_no_29 b call k = at (call_case b call)
  where
    at : {one : Call} {step : Step} → CallCase b one step → step.outcome ≡ Err BrokenRecord → ⊥
    at {one} (refused why q) e =
        let same : why ≡ BrokenRecord = cc in
        call_not_29 b one (whole_unbroken b k.whole) (q ∙ ap some same)
    at (released q may) e = not_one cc
    at (ticked q may) e = not_one cc

pub opened_no_29 : (cores : ℕ) (table : Table) (b : Bench) → opened cores table ≡ some b → (calls : List Call) (call : Call)
    → (do_call (after b calls) call).outcome ≡ Err BrokenRecord → ⊥
opened_no_29 cores table b o calls call = kept_no_29 (after b calls) call (kept_after calls b (kept_opened cores table b o))

-- At the last instant a tick is refused and nothing moves.
pub tick_at_end : (b : Bench) → Kept b → b.now.0 ≡ last_instant → tick b ≡ refused_step ClockEnd b
unfolding call_tests
tick_at_end b k e = refused_step_lem b ticks ClockEnd (tick_24 b (whole_unbroken b k.whole) e)
