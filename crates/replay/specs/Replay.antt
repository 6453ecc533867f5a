-- What a replay answers, and what it leaves in the lent buffer.
use Rattle.std.specs.Prelude.{ℕ, ◌+◌, ◌-◌, Bool, true, false, List, [], ◌∷◌, ltb, length, Option, None, Some, Result, Ok, Err}
use Rattle.std.proofs.Math.Option.{Option as Maybe, none, some}
use Rattle.std.proofs.lemmas.List.Edits.{sets}
use Rattle.quantities.specs.Table.{rows_of}
use Rattle.quantities.specs.Checks.{list_fault}
use Rattle.quantities.specs.declared.Table.{Table}
use Rattle.quantities.specs.declared.Fault.{Fault}
use Rattle.bench.specs.declared.Bench.{Bench}
use Rattle.bench.specs.declared.Request.{Request}
use Rattle.bench.specs.Step.{empty_bench}
use Rattle.bench.specs.History.{do_call, call_of}
use Rattle.replay.specs.declared.Unanswered.{Unanswered}
use Rattle.replay.specs.declared.Unanswered.TheVariants.{NotOpened, NotACall, NoRoom}
use Rattle.replay.specs.Format.{request_of, answer_bytes}

-- The requests in a list of bytes, up to what is no call, and whether there is no such thing.
pub record Requests : Type 0 where
  pub list : List Request
  pub whole : Bool

-- one request more in front of those that follow
abbrev pub in_front : Option Request → Requests → Requests
in_front None later = record { list = []; whole = false }
in_front (Some request) later = record { list = request ∷ later.list; whole = later.whole }

unfoldable pub requests_in : List ℕ → Requests
requests_in (kind ∷ place ∷ first ∷ second ∷ third ∷ fourth ∷ rest) =
    in_front (request_of kind place first second third fourth) (requests_in rest)
requests_in (a ∷ b ∷ c ∷ d ∷ e ∷ []) = record { list = []; whole = false }
requests_in (a ∷ b ∷ c ∷ d ∷ []) = record { list = []; whole = false }
requests_in (a ∷ b ∷ c ∷ []) = record { list = []; whole = false }
requests_in (a ∷ b ∷ []) = record { list = []; whole = false }
requests_in (a ∷ []) = record { list = []; whole = false }
requests_in [] = record { list = []; whole = true }

-- how a replay ended: all calls answered, in this many bytes, or what was left unanswered
abbrev pub Replayed : Type 0
Replayed = Result ℕ Unanswered

-- How a replay ended, and the buffer after it.
pub record Replay : Type 0 where
  pub answer : Replayed
  pub out : List ℕ

-- the end of a replay at byte `place` of the calls and byte `at` of the buffer
abbrev pub ending : (whole : Bool) → (place at : ℕ) → Replayed
ending true place at = Ok at
ending false place at = Err (NotACall place)

-- the requests answered one after the other, as long as there is room
unfoldable pub answered : Bool → Bench → List Request → (place at : ℕ) → List ℕ → Replay
answered whole b [] place at out = record { answer = ending whole place at; out = out }
answered whole b (request ∷ rest) place at out =
    let step = do_call b (call_of request) in
    elim (ltb (length out - at) (length (answer_bytes step))) [
      | true ↦ record { answer = Err (NoRoom place); out = out }
      | false ↦
          answered whole step.bench rest (place + 6) (at + length (answer_bytes step))
          (sets out at (answer_bytes step))
    ]

-- a replay of bytes from a bench, and from the opening of one
abbrev pub replay_from : Bench → (calls out : List ℕ) → Replay
replay_from b calls out = answered (requests_in calls).whole b (requests_in calls).list 0 0 out

unfoldable pub replay_after : Maybe Fault → (cores : ℕ) → Table → (calls out : List ℕ) → Replay
replay_after (some fault) cores table calls out = record { answer = Err (NotOpened fault); out = out }
replay_after none cores table calls out = replay_from (empty_bench cores table) calls out

unfoldable pub replay : (cores : ℕ) → Table → (calls out : List ℕ) → Replay
replay cores table calls out = replay_after (list_fault cores (rows_of table)) cores table calls out
