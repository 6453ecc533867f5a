-- The bytes of a replay: a call in six bytes, an answer in three and five more for each poll that ended.
use Rattle.std.specs.Prelude.{ℕ, ◌+◌, ◌*◌, ◌/◌, ◌%◌, true, false, List, [], ◌∷◌, ◌++◌, eqb, length, Option, None, Some}
use Rattle.bench.specs.declared.Request.{Request}
use Rattle.bench.specs.declared.Request.TheVariants.{Release, Tick}
use Rattle.bench.specs.declared.Finish.{Finish}
use Rattle.bench.specs.Refusal.{Outcome, outcome_paper}
use Rattle.bench.specs.Step.{Step}

-- the request of six bytes: 2 for a tick, 1 for a release at a place with a demand of four bytes, most significant
-- first
unfoldable pub request_of : (kind place first second third fourth : ℕ) → Option Request
request_of kind place first second third fourth =
    elim (eqb kind 2) [
      | true ↦ Some Tick
      | false ↦ elim (eqb kind 1) [
        | true ↦ Some (Release place (record { 0 = ((first * 256 + second) * 256 + third) * 256 + fourth }))
        | false ↦ None
      ]
    ]

-- the request in the first six bytes of a list
unfoldable pub request_in : List ℕ → Option Request
request_in (kind ∷ place ∷ first ∷ second ∷ third ∷ fourth ∷ rest) = request_of kind place first second third fourth
request_in (a ∷ b ∷ c ∷ d ∷ e ∷ []) = None
request_in (a ∷ b ∷ c ∷ d ∷ []) = None
request_in (a ∷ b ∷ c ∷ []) = None
request_in (a ∷ b ∷ []) = None
request_in (a ∷ []) = None
request_in [] = None

-- the lowest byte of a number
abbrev pub byte_of : ℕ → ℕ
byte_of n = n % 256

-- a poll that ended: its place, and its response in four bytes, most significant first
abbrev pub poll_bytes : Finish → List ℕ
poll_bytes poll =
    let r = poll.response.0 in
    byte_of poll.place ∷ byte_of (r / 16777216) ∷ byte_of (r / 65536) ∷ byte_of (r / 256) ∷ byte_of r ∷ []

unfoldable pub polls_bytes : List Finish → List ℕ
polls_bytes [] = []
polls_bytes (poll ∷ polls) = poll_bytes poll ++ polls_bytes polls

-- the answer to a call: its number and its place on paper, how many polls ended, and these
abbrev pub answer_of : Outcome → List Finish → List ℕ
answer_of outcome polls =
    (outcome_paper outcome).number ∷ byte_of (outcome_paper outcome).place ∷ byte_of (length polls) ∷ polls_bytes polls

abbrev pub answer_bytes : Step → List ℕ
answer_bytes step = answer_of step.outcome step.finishes

-- the answers to a history, one after the other
abbrev pub answers_joined : List Step → List ℕ
answers_joined [] = []
answers_joined (step ∷ rest) = answer_bytes step ++ answers_joined rest
