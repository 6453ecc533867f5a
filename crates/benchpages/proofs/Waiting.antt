-- One call on a bench where a poll is unfinished: it stays unfinished and is not listed, or a tick lists it.
use Prim.Native.Nat.{ℕ, suc, ◌+◌, ◌-◌, ◌≤◌, ◌<◌}
use native.Mathlib.Decide.{dec_le}
use native.Mathlib.Omega.{arith}
use mathlib.Core.Path.{◌≡◌, refl, sym, ap, ◌∙◌}
use mathlib.Core.Logic.{◌⊎◌, inl, inr}
use lib.ListN.{get_or}
use Rattle.std.specs.Prelude.{Option, None, Some, Ok}
use Rattle.laws.proofs.Lists.{each_map}
use Rattle.laws.proofs.Tests.{not_one}
use Rattle.quantities.specs.declared.Instant.{Instant}
use Rattle.quantities.proofs.Rows.{length_rows}
use Rattle.bench.specs.declared.RowState.{RowState}
use Rattle.bench.specs.declared.Bench.{Bench}
use Rattle.bench.specs.declared.Finish.{Finish}
use Rattle.bench.specs.State.{state_at, work}
use Rattle.bench.specs.Serving.{after_units}
use Rattle.bench.specs.Step.{Step, started, release, served, moved, taken, tick}
use Rattle.bench.specs.History.{releases, ticks}
use Rattle.bench.specs.TickRule.{Gets, PollEnds, TickRule}
use Rattle.bench.proofs.State.{sound_fits}
use Rattle.bench.proofs.Steps.{CallCase, refused, released as poll_started, ticked, call_case}
use Rattle.bench.proofs.Balance.{started_here, started_elsewhere}
use Rattle.bench.proofs.TickRule.{gets_one, has_got, taken_rule}
use Rattle.bench.proofs.Kept.{Kept}
use Rattle.benchpages.specs.Polls.{ListsNone, ListsPoll}

-- The row at a place has an unfinished poll that was released at an instant.
pub record Waits (place released : ℕ) (b : Bench) : Type 0 where
  pub last_release : (state_at b place).last ≡ Some (record { 0 = released })
  pub busy : 0 < work (state_at b place)
  pub past : released ≤ b.now.0

-- A step lists this poll, with finish instant minus release instant.
pub record EndsNow (place released : ℕ) (step : Step) : Type 0 where
  pub response : ℕ
  pub lists : ListsPoll place response step.finishes
  pub finish_minus_release : released + response ≡ step.bench.now.0

-- A step leaves it unfinished and does not list it.
pub record WaitsOn (place released : ℕ) (step : Step) : Type 0 where
  pub waits : Waits place released step.bench
  pub none_listed : ListsNone place step.finishes

-- two releases that are the same last one are at one instant
one_instant : (one other : Instant) → Some one ≡ Some other → one.0 ≡ other.0
one_instant one other e = ap instant_of_lem e
  where
    instant_of_lem : Option Instant → ℕ
    instant_of_lem None = 0
    instant_of_lem (Some at) = at.0

module _ (place released : ℕ) (first : 1 ≤ place) (b : Bench) (kept : Kept b)
    (waits : Waits place released b) where
  -- A release changes nothing of it: one of the same row is refused.
  pub release_waits : (other demand : ℕ) → WaitsOn place released (release b other demand)
  unfolding started
  release_waits other demand = at (call_case b (releases other demand))
    where
      at : {step : Step} → CallCase b (releases other demand) step → WaitsOn place released step
      at (refused why q) = record { waits = waits; none_listed = tt }
      at (poll_started q may) =
          let busy = waits.busy in
          let elsewhere : place ≡ other → ⊥ =
          λ same. omega (arith, may.done, busy, ap (λ (p : ℕ). work (state_at b p)) same) in
          let same = started_elsewhere b other demand kept may place first elsewhere in
          record {
            waits = record {
              last_release = ap (λ (s : RowState). s.last) same ∙ waits.last_release;
              busy = rw same busy;
              past = waits.past;
            };
            none_listed = tt;
          }

  -- the tick rule, of a tick that is not refused
  rule : TickRule b (taken b)
  rule =
      let few = sound_fits b.cores b.table kept.whole.sound in
      taken_rule b kept (omega (arith, length_rows b.table, few, kept.long))

  -- A tick that gives the row its last unit lists the poll,
  ends_now : Gets b place → work (state_at b place) ≡ 1 → EndsNow place released (taken b)
  ends_now gets one =
      let ends : PollEnds b (record { place = place; response = record { 0 = suc b.now.0 - released } }) =
      record {
        gets = gets;
        last_unit = one;
        release = record { 0 = released };
        released = waits.last_release;
        response = refl;
      } in
      record {
        response = suc b.now.0 - released;
        lists = record {
          listed = rule.listed _ ends;
          no_other = each_map same_response (taken b).finishes rule.no_other;
        };
        finish_minus_release = omega (arith, rule.clock, waits.past);
      }
    where
      same_response : (other : Finish) → PollEnds b other → other.place ≡ place
          → other.response.0 ≡ suc b.now.0 - released
      same_response other ends is =
          let then : (state_at b place).last ≡ Some ends.release = rw is at ends.released in
          let at : Instant = record { 0 = released } in
          rw (one_instant ends.release at (sym then ∙ waits.last_release)) at ends.response

  -- one that gives it another unit or none leaves it waiting,
  more_to_do : Gets b place → 2 ≤ work (state_at b place) → WaitsOn place released (taken b)
  unfolding after_units
  more_to_do gets two =
      let same = rule.one_unit place gets in
      record {
        waits = record {
          last_release = ap (λ (s : RowState). s.last) same ∙ waits.last_release;
          busy = rw same (omega arith);
          past = omega (arith, rule.clock, waits.past);
        };
        none_listed = each_map
            (λ other ends is. omega (arith, ends.last_unit, ap (λ (p : ℕ). work (state_at b p)) is))
            (taken b).finishes rule.no_other;
      }

  no_unit_now : (Gets b place → ⊥) → WaitsOn place released (taken b)
  no_unit_now not =
      let same = rule.no_unit place first not in
      record {
        waits = record {
          last_release = ap (λ (s : RowState). s.last) same ∙ waits.last_release;
          busy = rw same waits.busy;
          past = omega (arith, rule.clock, waits.past);
        };
        none_listed =
            each_map (λ other ends is. not (rw is at ends.gets)) (taken b).finishes rule.no_other;
      }

  taken_goes : EndsNow place released (taken b) ⊎ WaitsOn place released (taken b)
  taken_goes = go (dec_le 1 (get_or (served b) (place - 1) 0)) (dec_le 2 (work (state_at b place)))
    where
      go : Dec (1 ≤ get_or (served b) (place - 1) 0) → Dec (2 ≤ work (state_at b place))
          → EndsNow place released (taken b) ⊎ WaitsOn place released (taken b)
      go (no h) two = inr (no_unit_now (λ gets. omega (arith, gets_one b place gets)))
      go (yes h) (yes two) = inr (more_to_do (has_got b place first h) two)
      go (yes h) (no two) = inl (ends_now (has_got b place first h) (omega (arith, waits.busy)))

  -- and so does a tick that is refused.
  pub tick_goes : EndsNow place released (tick b) ⊎ WaitsOn place released (tick b)
  tick_goes = at (call_case b ticks)
    where
      at : {step : Step} → CallCase b ticks step → EndsNow place released step ⊎ WaitsOn place released step
      at (refused why q) = inr (record { waits = waits; none_listed = tt })
      at (ticked q may) = taken_goes

-- A tick that lists a poll is taken: it moves the clock.
pub lists_moves : (b : Bench) (place released : ℕ) → EndsNow place released (tick b)
    → (tick b).bench.now.0 ≡ suc b.now.0
unfolding taken moved
lists_moves b place released = at (call_case b ticks)
  where
    at : {step : Step} → CallCase b ticks step → EndsNow place released step
        → step.bench.now.0 ≡ suc b.now.0
    at (refused why q) now = absurd now.lists.listed
    at (ticked q may) now = refl

-- A release that is taken starts the poll.
pub starts : (b : Bench) (place demand : ℕ) → Kept b → (release b place demand).outcome ≡ Ok tt
    → Waits place b.now.0 (release b place demand).bench
unfolding started
starts b place demand kept = at (call_case b (releases place demand))
  where
    at : {step : Step} → CallCase b (releases place demand) step → step.outcome ≡ Ok tt
        → Waits place b.now.0 step.bench
    at (refused why q) is = absurd (not_one cc)
    at (poll_started q may) is =
        let here = started_here b place demand kept may in
        record {
          last_release = ap (λ (s : RowState). s.last) here;
          busy = rw here may.some_demand;
          past = omega arith;
        }
