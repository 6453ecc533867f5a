-- What is true in every state of a running board: each row with a bound has a window, shorter than the bound.
use Prim.Native.Nat.{ℕ, suc, ◌+◌, ◌*◌, ◌≤◌, ◌<◌}
use mathlib.Core.Path.{◌≡◌}
use mathlib.Core.Bool.{Bool, true, false}
use mathlib.Core.List.{List, [], ◌∷◌}
use Rattle.quantities.specs.declared.Row.{Row}
use Rattle.quantities.specs.Row.{cost, gap}
use Rattle.windows.specs.Choice.{Bounded, bounded, InRange, Passes, carriers}
use Rattle.bench.specs.declared.RowState.{RowState}
use Rattle.bench.specs.State.{work}
use Rattle.bench.specs.Serving.{sum}
use Rattle.running.proofs.State.{ever, came}

-- A row's state: no more work than one poll has, no release after now, and work only of a poll that came.
pub record Keeps (now : ℕ) (b : Bounded) (st : RowState) : Type 0 where
  pub fits : work st ≤ cost b.row
  pub past : came st ≤ now
  pub known : 0 < work st → ever st ≡ true

-- What a row above did since the window began, w ticks of work in all; the flag says whether it carries in.
pub data Phase (now start : ℕ) (b : Bounded) (st : RowState) (w : ℕ) : Bool → Type 0 where
  -- no poll of it came, and none was left
  quiet : w ≡ 0 → work st ≡ 0 → Phase now start b st w false
  -- j polls came in the window, and then the last one
  ran : (j : ℕ) → ever st ≡ true → came st ≤ now → start + j * gap b.row ≤ came st
      → w + work st ≤ suc j * cost b.row → w + came st ≤ j * cost b.row + now
      → Phase now start b st w false
  -- its last poll came before the window, and had run for at least one tick when the window began
  carried : ever st ≡ true → came st < start → w + work st < cost b.row → w + start ≤ now
      → w + start ≤ came st + b.bound
      → Phase now start b st w true
  -- the poll that carried in came at ρ and ran `a` ticks in the window; then came j polls, and the last one
  carried_ran : (ρ a j : ℕ) → ever st ≡ true → came st ≤ now → ρ < start → a < cost b.row
      → a + start ≤ ρ + b.bound
      → ρ + suc j * gap b.row ≤ came st
      → w + work st ≤ a + suc j * cost b.row → w + came st ≤ a + j * cost b.row + now
      → Phase now start b st w true

-- The rows above in step: for each its flag, and v, the part of its work done in the `busy` full ticks.
pub data Above (now start busy : ℕ) : List Bounded → List RowState → List Bool → List ℕ → Type 0 where
  no_rows : Above now start busy [] [] [] []
  more : {b : Bounded} {st : RowState} {f : Bool} {v : ℕ} {above : List Bounded} {up : List RowState}
      {fs : List Bool} {vs : List ℕ}
      → (w : ℕ) → v ≤ w → v ≤ busy → Phase now start b st w f → Above now start busy above up fs vs
      → Above now start busy (b ∷ above) (st ∷ up) (f ∷ fs) (v ∷ vs)

-- What is known of the rows above a row: in range, kept, and with work left only within the bound.
pub data Facts (now : ℕ) : List Bounded → List RowState → Type 0 where
  no_facts : Facts now [] []
  fact : {b : Bounded} {st : RowState} {above : List Bounded} {up : List RowState}
      → InRange b → Keeps now b st → (0 < work st → now < came st + b.bound) → Facts now above up
      → Facts now (b ∷ above) (st ∷ up)

-- The row's own part of its window: it rests, or its poll came in the window and has run `own` ticks.
pub data Mine (start : ℕ) (b : Bounded) (st : RowState) (own : ℕ) : Type 0 where
  resting : work st ≡ 0 → own ≡ 0 → Mine start b st own
  working : 0 < work st → start ≤ came st → own + work st ≤ cost b.row → Mine start b st own

-- The ticks from `start` to now: in each, M rows above were served (a full tick), or the row judged was (one of
-- its own). Of the row judged only `own` is known, so `within` speaks of every own work n that is not yet done,
-- and of every window x that passes with it.
pub record Stretch (M now start own : ℕ) (above : List Bounded) (up : List RowState) : Type 0 where
  pub busy : ℕ
  pub flags : List Bool
  pub vs : List ℕ
  pub few : carriers flags < M
  pub span : now ≡ start + (busy + own)
  pub full : sum vs ≡ M * busy
  pub rows : Above now start busy above up flags vs
  pub within : (n x : ℕ) → own < n → n ≤ x → Passes M n above x → now < start + x

-- The window of a row: where it began, the row's own part of it, and the stretch since then.
pub record Window (M now : ℕ) (b : Bounded) (st : RowState) (above : List Bounded) (up : List RowState)
    : Type 0 where
  pub start : ℕ
  pub own : ℕ
  pub mine : Mine start b st own
  pub stretch : Stretch M now start own above up

-- A row whose bound is right: in range, and a window that passes.
pub record Shown (M : ℕ) (above : List Bounded) (b : Bounded) : Type 0 where
  pub range : InRange b
  pub passes : Passes M (cost b.row) above b.bound

-- The invariant of the rows with a bound, from the top. `above` and `up` are the rows above, nearest first.
pub data Inv (M now : ℕ) : List Bounded → List RowState → List Row → List ℕ → List RowState → Type 0 where
  done : {above : List Bounded} {up : List RowState} {rows : List Row} {states : List RowState}
      → Inv M now above up rows [] states
  next : {above : List Bounded} {up : List RowState} {row : Row} {rows : List Row} {r : ℕ} {bounds : List ℕ}
      {st : RowState} {states : List RowState}
      → Shown M above (bounded row r) → Keeps now (bounded row r) st
      → Window M now (bounded row r) st above up
      → Inv M now (bounded row r ∷ above) (st ∷ up) rows bounds states
      → Inv M now above up (row ∷ rows) (r ∷ bounds) (st ∷ states)
