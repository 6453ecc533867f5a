-- Rows below make no difference: neither to a row's bound nor to what the row does on a running board.
use Rattle.std.specs.Prelude.{ℕ, ◌≤◌, ◌≡◌, ◌↔◌, Bool, true, cond, ◌&&◌, List, [], ◌∷◌, leb, ltb, length, take}
use Rattle.std.proofs.Math.Option.{some}
use Rattle.quantities.specs.declared.Row.{Row}
use Rattle.quantities.specs.declared.Table.{Table}
use Rattle.quantities.specs.Table.{rows_of}
use Rattle.windows.specs.declared.Answer.TheVariants.{NotShown}
use Rattle.windows.specs.Answer.{Judged, judged}
use Rattle.bench.specs.declared.Bench.{Bench}
use Rattle.bench.specs.declared.Finish.{Finish}
use Rattle.bench.specs.Refusal.{Outcome}
use Rattle.bench.specs.Step.{opened}
use Rattle.bench.specs.History.{Call, releases, ticks, do_call, after}
use Rattle.rowpages.specs.Lists.{ListInRange}

-- The same answer for places 1 to k: the same bounds, and the same number and place, if one of these is named.
pub record SameAnswer (k : ℕ) (a b : Judged) : Type 0 where
  pub bounds : take k a.bounds ≡ take k b.bounds
  pub named : (number place : ℕ) → place ≤ k
      → (a.answer ≡ NotShown number place) ↔ (b.answer ≡ NotShown number place)

-- Among tables that pass the checks with equal M, two that agree down to place k give the same answer for
-- places 1 to k, under any rows below.
abbrev pub AnswerFromAbove : Type 0
AnswerFromAbove =
    (k cores : ℕ) (rows others : List Row) → ListInRange cores rows → ListInRange cores others
    → take k rows ≡ take k others
    → SameAnswer k (judged cores rows) (judged cores others)

-- A call concerns the rows down to place k: a tick, or a release at one of their places. The calls of a
-- history that do:
abbrev pub concerns_down_to : (k : ℕ) → Call → Bool
concerns_down_to k (releases place demand) = ltb 0 place && leb place k
concerns_down_to k ticks = true

abbrev pub calls_down_to : (k : ℕ) → List Call → List Call
calls_down_to k [] = []
calls_down_to k (call ∷ calls) = cond (concerns_down_to k call) (call ∷ calls_down_to k calls) (calls_down_to k calls)

-- What the rows down to place k hear of a call: its outcome, and which of their polls ended.
pub record HeardOfCall : Type 0 where
  pub outcome : Outcome
  pub polls : List Finish

abbrev pub polls_down_to : (k : ℕ) → List Finish → List Finish
polls_down_to k [] = []
polls_down_to k (poll ∷ polls) = cond (leb poll.place k) (poll ∷ polls_down_to k polls) (polls_down_to k polls)

-- what they hear in a history, of each call that concerns them
abbrev pub heard_down_to : (k : ℕ) → Bench → List Call → List HeardOfCall
heard_down_to k b [] = []
heard_down_to k b (call ∷ calls) =
    cond (concerns_down_to k call)
    (record { outcome = (do_call b call).outcome; polls = polls_down_to k (do_call b call).finishes }
    ∷ heard_down_to k (do_call b call).bench calls)
    (heard_down_to k (do_call b call).bench calls)

-- Two boards that were opened with equal M, for tables with the same rows down to place k.
pub record SameDownTo (k cores : ℕ) (table other : Table) (start start' : Bench) : Type 0 where
  pub opened_first : opened cores table ≡ some start
  pub opened_second : opened cores other ≡ some start'
  pub tall_first : k ≤ length (rows_of table)
  pub tall_second : k ≤ length (rows_of other)
  pub rows : take k (rows_of table) ≡ take k (rows_of other)

-- Two histories are the same for the rows down to place k: the instant, their states, and all that they hear.
pub record SameHistory (k : ℕ) (start start' : Bench) (calls calls' : List Call) : Type 0 where
  pub instant : (after start calls).now.0 ≡ (after start' calls').now.0
  pub states : take k (after start calls).states ≡ take k (after start' calls').states
  pub heard : heard_down_to k start calls ≡ heard_down_to k start' calls'

-- On such boards histories with the same ticks and the same releases of the rows down to place k are.
abbrev pub RunFromAbove : Type 0
RunFromAbove =
    (k cores : ℕ) (table other : Table) (start start' : Bench) → SameDownTo k cores table other start start'
    → (calls calls' : List Call) → calls_down_to k calls ≡ calls_down_to k calls'
    → SameHistory k start start' calls calls'
