-- Histories of calls: the run of a history from a bench, refused calls included, and what it did to a row.
use Rattle.std.specs.Prelude.{ℕ, ◌+◌, ◌-◌, ◌≡◌, Bool, true, false, ◌&&◌, List, [], ◌∷◌, eqb, leb, ltb, get_or, take, Ok, Err}
use Rattle.laws.specs.Checks.{Check}
use Rattle.bench.specs.declared.Bench.{Bench}
use Rattle.bench.specs.declared.Refusal.{Refusal}
use Rattle.bench.specs.declared.Request.{Request}
use Rattle.bench.specs.declared.Request.TheVariants.{Release, Tick}
use Rattle.bench.specs.declared.Finish.{Finish}
use Rattle.bench.specs.Refusal.{Outcome, release_tests, tick_tests}
use Rattle.bench.specs.Step.{Step, release, tick, served}

-- A call on a bench: a release of a demand at a place, or a tick.
pub data Call : Type 0 where
  releases : (place demand : ℕ) → Call
  ticks : Call

-- the call that the code's request stands for
unfoldable pub call_of : Request → Call
call_of (Release place demand) = releases place demand.0
call_of Tick = ticks

-- the tests of a call, in their order
unfoldable pub call_tests : Bench → Call → List (Check Refusal)
call_tests b (releases place demand) = release_tests b place demand
call_tests b ticks = tick_tests b

-- what a call does
abbrev pub do_call : Bench → Call → Step
do_call b (releases place demand) = release b place demand
do_call b ticks = tick b

-- The run of a history from a bench: the bench after it,
unfoldable pub after : Bench → List Call → Bench
after b [] = b
after b (call ∷ calls) = after (do_call b call).bench calls

-- and the steps with their answers, call by call.
unfoldable pub steps : Bench → List Call → List Step
steps b [] = []
steps b (call ∷ calls) = do_call b call ∷ steps (do_call b call).bench calls

-- whether a call was taken
unfoldable pub is_taken : Outcome → Bool
is_taken (Ok done) = true
is_taken (Err why) = false

-- the demand that a call brings the row at a place, and the units that it serves it: none where it is refused
unfoldable pub brought : (place : ℕ) → Bench → Call → ℕ
brought place b (releases other demand) =
    elim (eqb other place && is_taken (release b other demand).outcome) [ true ↦ demand | false ↦ 0 ]
brought place b ticks = 0

unfoldable pub gave : (place : ℕ) → Bench → Call → ℕ
gave place b (releases other demand) = 0
gave place b ticks = elim (is_taken (tick b).outcome) [ true ↦ get_or (served b) (place - 1) 0 | false ↦ 0 ]

-- the demand accepted in a history for the row at a place
unfoldable pub accepted : (place : ℕ) → Bench → List Call → ℕ
accepted place b [] = 0
accepted place b (call ∷ calls) = brought place b call + accepted place (do_call b call).bench calls

-- the units that a history's ticks serve the row at a place
unfoldable pub served_in : (place : ℕ) → Bench → List Call → ℕ
served_in place b [] = 0
served_in place b (call ∷ calls) = gave place b call + served_in place (do_call b call).bench calls

-- Whether a call concerns the rows down to place k: a tick, or a release at one of their places.
unfoldable pub concerns : (k : ℕ) → Call → Bool
concerns k (releases place demand) = ltb 0 place && leb place k
concerns k ticks = true

-- the calls of a history that do
unfoldable pub calls_to : (k : ℕ) → List Call → List Call
calls_to k [] = []
calls_to k (call ∷ calls) = elim (concerns k call) [ true ↦ call ∷ calls_to k calls | false ↦ calls_to k calls ]

-- the ended polls of rows down to place k
unfoldable pub finishes_to : (k : ℕ) → List Finish → List Finish
finishes_to k [] = []
finishes_to k (poll ∷ polls) =
    let rest = finishes_to k polls in
    elim (leb poll.place k) [ true ↦ poll ∷ rest | false ↦ rest ]

-- What the rows down to a place hear of a call: whether it was taken, and which of their polls ended.
pub record Heard : Type 0 where
  pub outcome : Outcome
  pub finishes : List Finish

abbrev pub heard_of : (k : ℕ) → Step → Heard
heard_of k step = record { outcome = step.outcome; finishes = finishes_to k step.finishes }

-- what they hear in the run of a history: of each call that concerns them
unfoldable pub heard : (k : ℕ) → Bench → List Call → List Heard
heard k b [] = []
heard k b (call ∷ calls) =
    let rest = heard k (do_call b call).bench calls in
    elim (concerns k call) [ true ↦ heard_of k (do_call b call) ∷ rest | false ↦ rest ]

-- Two histories are the same for the rows down to place k: the instant, their states, and each answer to a
-- tick or to a release of theirs.
pub record SameRun (k : ℕ) (start start' : Bench) (calls calls' : List Call) : Type 0 where
  pub instant : (after start calls).now.0 ≡ (after start' calls').now.0
  pub states : take k (after start calls).states ≡ take k (after start' calls').states
  pub answers : heard k start calls ≡ heard k start' calls'
