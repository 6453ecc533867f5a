-- When a call is permitted: what its tests say, in both directions.
use Prim.Native.Nat.{ℕ, ◌-◌, ◌≤◌, ◌<◌}
use native.Mathlib.Omega.{arith}
use mathlib.Core.Path.{◌≡◌, refl}
use mathlib.Core.Bool.{true, false}
use mathlib.Core.Option.{Option, none, some}
use lib.Dec.{eqb, ltb}
use lib.ListN.{length, get_or}
use borrow.Author.Tests.{eq-eqb, ne_eqb, lt-ltb, le-ltb, ltb-false, eqb-false}
use Rattle.std.specs.Prelude.{Ok, Err}
use Rattle.laws.specs.Checks.{first_failing}
use Rattle.laws.proofs.Checks.{none_fails}
use Rattle.laws.proofs.Tests.{or_false, not_one}
use Rattle.quantities.specs.Limits.{row_capacity}
use Rattle.quantities.specs.Row.{cost, gap, no_row}
use Rattle.quantities.specs.declared.Row.{Row}
use Rattle.quantities.proofs.Rows.{length_rows, row_at_lem}
use Rattle.bench.specs.declared.Bench.{Bench}
use Rattle.bench.specs.declared.Refusal.{Refusal}
use Rattle.bench.specs.declared.Refusal.TheVariants.{NoPlace, Unfinished, TooSoon, WrongDemand, ClockEnd, BrokenRecord}
use Rattle.bench.specs.State.{last_instant, rows, row_at, state_at, work, broken}
use Rattle.bench.specs.Refusal.{too_soon, release_tests, tick_tests, outcome_of}
use Rattle.bench.proofs.State.{few_rows, whole_of}

-- A release of `demand` at `place` is permitted.
pub record MayRelease (b : Bench) (place demand : ℕ) : Type 0 where
  pub whole : broken b ≡ false
  pub low : 0 < place
  pub high : place ≤ length (rows b)
  pub some_demand : 0 < demand
  pub fits : demand ≤ cost (row_at b place)
  pub late : too_soon b.now.0 (gap (row_at b place)) (state_at b place).last ≡ false
  pub done : work (state_at b place) ≡ 0

-- A tick is permitted.
pub record MayTick (b : Bench) : Type 0 where
  pub whole : broken b ≡ false
  pub clock : (b.now.0 ≡ last_instant) → ⊥

pub may_release : (b : Bench) (place demand : ℕ) → first_failing (release_tests b place demand) ≡ none → MayRelease b place demand
unfolding release_tests
may_release b place demand e0 =
    let (f1, (f2, (f3, (f4, (f5, t))))) = none_fails (release_tests b place demand) e0 in
    let (p0, p1) = or_false (eqb place 0) (ltb (length (rows b)) place) f2 in
    let (d0, d1) = or_false (eqb demand 0) (ltb (cost (row_at b place)) demand) f3 in
    record {
      whole = f1;
      low = omega (arith, eqb-false place 0 p0);
      high = ltb-false (length (rows b)) place p1;
      some_demand = omega (arith, eqb-false demand 0 d0);
      fits = ltb-false (cost (row_at b place)) demand d1;
      late = f4;
      done = omega (arith, ltb-false 0 (work (state_at b place)) f5);
    }

pub may_tick : (b : Bench) → first_failing (tick_tests b) ≡ none → MayTick b
unfolding tick_tests
may_tick b e0 =
    let (f1, (f2, t)) = none_fails (tick_tests b) e0 in
    record { whole = f1; clock = eqb-false b.now.0 last_instant f2 }

-- what an outcome says of the refusal
pub outcome_taken : (found : Option Refusal) → outcome_of found ≡ Ok tt → found ≡ none
unfolding outcome_of
outcome_taken none e = refl
outcome_taken (some why) e = absurd (not_one cc)

pub outcome_refused : (found : Option Refusal) (why : Refusal) → outcome_of found ≡ Err why → found ≡ some why
unfolding outcome_of
outcome_refused none why e = absurd (not_one cc)
outcome_refused (some other) why e = cc

-- a tick that is taken finds its rows kept, and the clock not at its end
pub may_serve : (b : Bench) → outcome_of (first_failing (tick_tests b)) ≡ Ok tt
    → (b.table.count ≤ row_capacity) × (b.now.0 < last_instant)
may_serve b taken =
    let may = may_tick b (outcome_taken (first_failing (tick_tests b)) taken) in
    let whole = whole_of b may.whole in
    (few_rows b may.whole, omega (arith, whole.in_time, may.clock))

-- Why a tick is refused, by the first test that fails.
module _ (b : Bench) where
  pub tick_29 : broken b ≡ true → first_failing (tick_tests b) ≡ some BrokenRecord
  unfolding tick_tests first_failing
  tick_29 e = rw (tick_tests, e)

  pub tick_24 : broken b ≡ false → b.now.0 ≡ last_instant → first_failing (tick_tests b) ≡ some ClockEnd
  unfolding tick_tests first_failing
  tick_24 whole e = rw (whole, eq-eqb b.now.0 last_instant e)

  pub tick_permitted : broken b ≡ false → ((b.now.0 ≡ last_instant) → ⊥) → first_failing (tick_tests b) ≡ none
  unfolding tick_tests first_failing
  tick_permitted whole e = rw (whole, ne_eqb b.now.0 last_instant e)

-- Why a release is refused, by the first test that fails; the row is the one that stands in the table at place - 1.
module _ (b : Bench) (place demand : ℕ) where
  abbrev kept_row : Row
  kept_row = get_or b.table.rows (place - 1) no_row

  pub release_29 : broken b ≡ true → first_failing (release_tests b place demand) ≡ some BrokenRecord
  unfolding release_tests first_failing
  release_29 e = rw e

  pub release_20_zero : broken b ≡ false → place ≡ 0 → first_failing (release_tests b place demand) ≡ some (NoPlace place)
  unfolding release_tests first_failing
  release_20_zero whole e = rw (whole, eq-eqb place 0 e)

  pub release_20_above : broken b ≡ false → (place ≡ 0 → ⊥) → b.table.count < place → first_failing (release_tests b place demand) ≡ some (NoPlace place)
  unfolding release_tests first_failing
  release_20_above whole n h = rw (whole, ne_eqb place 0 n, length_rows b.table, lt-ltb b.table.count place h)

  module _ (whole : broken b ≡ false) (n : place ≡ 0 → ⊥) (h : place ≤ b.table.count) where
    same_row : row_at b place ≡ kept_row
    same_row = row_at_lem b.table (place - 1) (omega arith)

    pub release_23_zero : demand ≡ 0 → first_failing (release_tests b place demand) ≡ some (WrongDemand place)
    unfolding release_tests first_failing
    release_23_zero e = rw (whole, ne_eqb place 0 n, length_rows b.table, le-ltb b.table.count place h, eq-eqb demand 0 e)

    pub release_23_above : (demand ≡ 0 → ⊥) → cost kept_row < demand → first_failing (release_tests b place demand) ≡ some (WrongDemand place)
    unfolding release_tests first_failing
    release_23_above d f = rw (whole, ne_eqb place 0 n, length_rows b.table, le-ltb b.table.count place h, ne_eqb demand 0 d, same_row, lt-ltb (cost kept_row) demand f)

    module _ (d : demand ≡ 0 → ⊥) (f : demand ≤ cost kept_row) where
      pub release_22 : too_soon b.now.0 (gap kept_row) (state_at b place).last ≡ true → first_failing (release_tests b place demand) ≡ some (TooSoon place)
      unfolding release_tests first_failing
      release_22 e = rw (whole, ne_eqb place 0 n, length_rows b.table, le-ltb b.table.count place h, ne_eqb demand 0 d, same_row, le-ltb (cost kept_row) demand f, e)

      pub release_21 : too_soon b.now.0 (gap kept_row) (state_at b place).last ≡ false → 0 < work (state_at b place) → first_failing (release_tests b place demand) ≡ some (Unfinished place)
      unfolding release_tests first_failing
      release_21 e w = rw (whole, ne_eqb place 0 n, length_rows b.table, le-ltb b.table.count place h, ne_eqb demand 0 d, same_row, le-ltb (cost kept_row) demand f, e, lt-ltb 0 (work (state_at b place)) w)

      pub release_permitted : too_soon b.now.0 (gap kept_row) (state_at b place).last ≡ false → work (state_at b place) ≤ 0 → first_failing (release_tests b place demand) ≡ none
      unfolding release_tests first_failing
      release_permitted e w = rw (whole, ne_eqb place 0 n, length_rows b.table, le-ltb b.table.count place h, ne_eqb demand 0 d, same_row, le-ltb (cost kept_row) demand f, e, le-ltb 0 (work (state_at b place)) w)

-- what decides whether a release, or a tick, is taken
pub ruleset release_cases = (few_rows, release_29, release_20_zero, release_20_above, release_23_zero, release_23_above, release_22, release_21, release_permitted)

pub ruleset tick_cases = (tick_29, tick_24, tick_permitted)

pub ruleset judged_release = (outcome_taken, outcome_refused, few_rows, may_release, length_rows)

pub ruleset judged_tick = (outcome_taken, outcome_refused, may_serve)
