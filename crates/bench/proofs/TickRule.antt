-- The tick rule holds of a tick that is not refused, on a bench whose record is whole.
use Prim.Native.Nat.{ℕ, zero, suc, ◌+◌, ◌-◌, ◌≤◌, ◌<◌, min}
use native.Mathlib.Decide.{dec_le}
use native.Mathlib.Omega.{arith}
use mathlib.Core.Path.{◌≡◌, refl, sym, ap, ◌∙◌}
use mathlib.Core.List.{List, [], ◌∷◌}
use lib.ListN.{length, get_or, take, length-take, get_or-eq_default}
use lib.Seq.{get_or-take, take-take}
use borrow.Author.Tests.{ltb-false}
use mathlib.Core.Bool.{false}
use Rattle.std.specs.Prelude.{Option, None, Some}
use Rattle.laws.specs.Member.{Member}
use Rattle.laws.proofs.Lists.{each_map}
use Rattle.quantities.specs.declared.Instant.{Instant}
use Rattle.bench.specs.declared.RowState.{RowState}
use Rattle.bench.specs.declared.Bench.{Bench}
use Rattle.bench.specs.declared.Finish.{Finish}
use Rattle.bench.specs.State.{idle, work, rows, state_at, last_broken}
use Rattle.bench.specs.Serving.{unit, units, sum, workers, after_units, worked, since, finish_of}
use Rattle.bench.specs.Step.{served, moved, taken}
use Rattle.bench.specs.TickRule.{workers_above, Gets, PollEnds, row_states, remaining, TickRule}
use Rattle.bench.proofs.Rows.{less_none}
use Rattle.bench.proofs.Serving.{length_units}
use Rattle.bench.proofs.Units.{unit_facts, units_total, unit_high, unit_low, length_worked}
use Rattle.bench.proofs.Balance.{moved_at, served_le_work}
use Rattle.bench.proofs.Responses.{Ends, each_ends, last_unit_ends, rising_finished}
use Rattle.bench.proofs.Kept.{Kept, row_kept_at}

-- A row that gets a unit has got one,
pub gets_one : (b : Bench) (place : ℕ) → Gets b place → get_or (served b) (place - 1) 0 ≡ 1
unfolding served
gets_one b place g =
    let here = get_or-take (length (rows b)) b.states (place - 1) idle (omega (arith, g.first, g.last)) in
    let up = take-take (place - 1) (length (rows b)) b.states (omega (arith, g.last)) in
    unit_high b.cores (place - 1) (row_states b) (rw here g.has_work) (rw up g.among_highest)

-- and a row that has got one is such a row.
module _ (b : Bench) (place : ℕ) (low : 1 ≤ place) (got : 0 < get_or (served b) (place - 1) 0) where
  within : place ≤ length (rows b)
  unfolding served
  within = go (dec_le (length (served b)) (place - 1))
    where
      go : Dec (length (served b) ≤ place - 1) → place ≤ length (rows b)
      go (yes h) = absurd (omega (arith, got, get_or-eq_default (served b) 0 h))
      go (no h) =
          let n = length_units b.cores (row_states b) in
          let m = length-take (length (rows b)) b.states in
          omega arith

  highest : workers_above b place < b.cores
  unfolding served
  highest = go (dec_le b.cores (workers_above b place))
    where
      go : Dec (b.cores ≤ workers_above b place) → workers_above b place < b.cores
      go (yes h) =
          let up = take-take (place - 1) (length (rows b)) b.states (omega (arith, within)) in
          absurd (omega (arith, got, unit_low b.cores (place - 1) (row_states b) (rw up h)))
      go (no h) = omega arith

  pub has_got : Gets b place
  has_got =
      record {
        first = low;
        last = within;
        has_work = omega (arith, got, served_le_work b place low within);
        among_highest = highest;
      }

no_unit : (b : Bench) (place : ℕ) → 1 ≤ place → (Gets b place → ⊥) → state_at (moved b) place ≡ state_at b place
no_unit b place low not = go (dec_le 1 (get_or (served b) (place - 1) 0))
  where
    go : Dec (1 ≤ get_or (served b) (place - 1) 0) → state_at (moved b) place ≡ state_at b place
    go (yes h) = absurd (not (has_got b place low h))
    go (no h) =
        let none : get_or (served b) (place - 1) 0 ≡ 0 = omega arith in
        moved_at b place ∙ ap (λ u. after_units u (state_at b place)) none ∙ less_none (state_at b place)

-- What the rows have got in all is what no longer remains.
spent : (free n : ℕ) (states : List RowState)
    → remaining (take n states)
    ≡ remaining (take n (worked (units free (take n states)) states)) + sum (units free (take n states))
unfolding units worked after_units
spent free zero states = refl
spent free (suc n) [] = refl
spent free (suc n) (s ∷ states) =
    let f = unit_facts free (work s) in
    omega (arith, spent (free - unit free (work s)) n states)

how_many : (b : Bench)
    → remaining (row_states b) ≡ remaining (row_states (moved b)) + min b.cores (workers (row_states b))
unfolding moved served
how_many b =
    omega (arith, spent b.cores (length (rows b)) b.states, units_total b.cores (row_states b))

-- A poll that ends so is the one that the tick lists.
same_poll : (b : Bench) (poll : Finish) → PollEnds b poll
    → finish_of (suc b.now.0) poll.place (state_at b poll.place) ≡ poll
unfolding finish_of since
same_poll b poll e = rw e.released (ap (poll_of poll.place) (sym e.response))
  where
    poll_of : ℕ → ℕ → Finish
    poll_of place response = record { place = place; response = record { 0 = response } }

listed : (b : Bench) (poll : Finish) → PollEnds b poll → Member poll (taken b).finishes
listed b poll e =
    rw (same_poll b poll e) at
    (last_unit_ends b poll.place e.gets.first (gets_one b poll.place e.gets) e.last_unit)

-- A row with work was released at some instant.
released_at : (now : ℕ) (last : Option Instant) (left : ℕ) → last_broken now last left ≡ false → 0 < left
    → (release : Instant) × (last ≡ Some release)
unfolding last_broken
released_at now None left e h = absurd (omega (arith, ltb-false 0 left e))
released_at now (Some at) left e h = (at, refl)

ends_so : (b : Bench) → Kept b → length (rows b) ≤ length b.states
    → (poll : Finish) → Ends b poll → PollEnds b poll
unfolding since
ends_so b k room poll e =
    let g = has_got b poll.place e.low (omega (arith, e.got)) in
    let i : poll.place - 1 < length (rows b) = omega (arith, e.low, e.high) in
    let l : poll.place - 1 < length b.states = omega arith in
    let row = row_kept_at b.now.0 (rows b) b.states (poll.place - 1) k.whole.in_order i l in
    let some_work : 0 < work (state_at b poll.place) = omega (arith, e.last_unit) in
    let (at, is) = released_at b.now.0 _ _ row.past some_work in
    record {
      gets = g;
      last_unit = e.last_unit;
      release = at;
      released = is;
      response = rw is at e.response;
    }

pub taken_rule : (b : Bench) → Kept b → length (rows b) ≤ length b.states → TickRule b (taken b)
unfolding taken moved
taken_rule b k room =
    record {
      outcome = refl;
      clock = refl;
      board = (refl, refl);
      one_unit = λ place g. moved_at b place ∙ ap (λ u. after_units u (state_at b place)) (gets_one b place g);
      no_unit = no_unit b;
      as_many = length_worked (served b) b.states;
      how_many = how_many b;
      listed = listed b;
      no_other = each_map (ends_so b k room) (taken b).finishes (each_ends b);
      rising = rising_finished (suc b.now.0) 1 (served b) b.states;
    }
