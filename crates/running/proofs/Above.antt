-- The rows above a row through a tick: a full one, one with a core to spare, one after which a window begins.
use Prim.Native.Nat.{ℕ, zero, suc, ◌+◌, ◌-◌, ◌≤◌, ◌<◌}
use mathlib.Core.Path.{◌≡◌, refl}
use mathlib.Core.Bool.{Bool, true, false}
use mathlib.Core.List.{List, [], ◌∷◌}
use native.Mathlib.Omega.{arith}
use Rattle.laws.specs.Each.{Each}
use lib.ListN.{length}
use Rattle.windows.specs.Choice.{Bounded, InRange, carriers}
use Rattle.bench.specs.declared.RowState.{RowState}
use Rattle.bench.specs.State.{work}
use Rattle.bench.specs.Serving.{unit, after_units, sum}
use Rattle.bench.proofs.Units.{unit_facts}
use Rattle.running.proofs.State.{came, spare, served_up}
use Rattle.running.proofs.Invariant.{Keeps, Phase, quiet, carried, Above, no_rows, more}
use Rattle.running.proofs.Invariant.{Facts, no_facts, fact}
use Rattle.running.proofs.Phase.{phase_tick}

-- The rows above after a tick that counts as full: their work in full ticks grows by the units that they got.
pub record Full (M now start busy : ℕ) (above : List Bounded) (up : List RowState)
    (fs : List Bool) (vs : List ℕ) : Type 0 where
  pub vs' : List ℕ
  pub rows : Above (suc now) start (suc busy) above (served_up M up) fs vs'
  pub gain : sum vs' + spare M up ≡ sum vs + M

pub above_full : {now start busy : ℕ} (M : ℕ) {above : List Bounded} {up : List RowState} {fs : List Bool}
    {vs : List ℕ}
    → Facts now above up → Above now start busy above up fs vs → Full M now start busy above up fs vs
above_full M no_facts no_rows = record { vs' = []; rows = no_rows; gain = refl }
above_full M (fact {st} {up} range kept in_time facts) (more {v} w work_v busy_v phase rows) =
    let rest = above_full M facts rows in
    let u = unit (spare M up) (work st) in
    let got = unit_facts (spare M up) (work st) in
    let phase' = phase_tick {u = u} (omega arith) (omega arith) in_time phase in
    record {
      vs' = (v + u) ∷ rest.vs';
      rows = more {v = v + u} (w + u) (omega arith) (omega arith) phase' rest.rows;
      gain = omega (arith, rest.gain);
    }

-- The rows above after another tick: their work in full ticks stays.
pub above_slack : {now start busy : ℕ} (M : ℕ) {above : List Bounded} {up : List RowState} {fs : List Bool}
    {vs : List ℕ}
    → Facts now above up → Above now start busy above up fs vs
    → Above (suc now) start busy above (served_up M up) fs vs
above_slack M no_facts no_rows = no_rows
above_slack M (fact {st} {up} range kept in_time facts) (more {v} w work_v busy_v phase rows) =
    let u = unit (spare M up) (work st) in
    let got = unit_facts (spare M up) (work st) in
    more {v = v} (w + u) (omega arith) busy_v (phase_tick (omega arith) (omega arith) in_time phase)
    (above_slack M facts rows)

-- The rows above where a window begins after a tick that left a core free. A row above with work left carries
-- in. It was served in this tick, so it has run, and each that carries in took one of the cores.
pub record Anew (M now : ℕ) (above : List Bounded) (up : List RowState) : Type 0 where
  pub fs : List Bool
  pub vs : List ℕ
  pub rows : Above (suc now) (suc now) 0 above (served_up M up) fs vs
  pub few : carriers fs + spare M up ≤ M
  pub zeros : sum vs ≡ 0

-- one row more, by what is left of its work
anew_row : {now : ℕ} (M : ℕ) {b : Bounded} {st : RowState} {above : List Bounded} {up : List RowState}
    → Keeps now b st → (0 < work st → now < came st + b.bound) → 0 < spare M (st ∷ up)
    → Anew M now above up
    → (left : ℕ) → work st - unit (spare M up) (work st) ≡ left → Anew M now (b ∷ above) (st ∷ up)
unfolding after_units
anew_row M {st} {up} kept in_time free rest zero over =
    let got = unit_facts (spare M up) (work st) in
    record {
      fs = false ∷ rest.fs;
      vs = 0 ∷ rest.vs;
      rows = more {v = 0} 0 (omega arith) (omega arith) (quiet refl over) rest.rows;
      few = omega (arith, rest.few);
      zeros = omega (arith, rest.zeros);
    }
anew_row {now} M {b} {st} {up} kept in_time free rest (suc left) some =
    let got = unit_facts (spare M up) (work st) in
    let early = in_time (omega arith) in
    let carries : Phase (suc now) (suc now) b (after_units (unit (spare M up) (work st)) st) 0 true =
    carried (kept.known (omega arith)) (omega arith) (omega arith) (omega arith) (omega arith) in
    record {
      fs = true ∷ rest.fs;
      vs = 0 ∷ rest.vs;
      rows = more {v = 0} 0 (omega arith) (omega arith) carries rest.rows;
      few = omega (arith, rest.few);
      zeros = omega (arith, rest.zeros);
    }

pub anew : {now : ℕ} (M : ℕ) {above : List Bounded} {up : List RowState} → Facts now above up
    → 0 < spare M up
    → Anew M now above up
anew M no_facts free = record { fs = []; vs = []; rows = no_rows; few = omega arith; zeros = refl }
anew M (fact {st} {up} range kept in_time facts) free =
    anew_row M kept in_time free (anew M facts (omega arith)) (work st - unit (spare M up) (work st)) refl

-- a flag for each row above
pub flags_each : {now start busy : ℕ} {above : List Bounded} {up : List RowState} {fs : List Bool}
    {vs : List ℕ}
    → Above now start busy above up fs vs → length fs ≡ length above
flags_each no_rows = refl
flags_each (more w work_v busy_v phase rows) = omega (arith, flags_each rows)

pub ranges : {now : ℕ} {above : List Bounded} {up : List RowState} → Facts now above up → Each InRange above
ranges no_facts = tt
ranges (fact range kept in_time facts) = (range, ranges facts)
