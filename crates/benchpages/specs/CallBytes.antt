-- The bytes of a replay: a call in six, an answer in three and five for each poll that ended, read back.
use Rattle.std.specs.Prelude.{ℕ, zero, suc, ◌+◌, ◌*◌, ◌≤◌, ◌<◌, ◌≡◌, true, false, List, [], ◌∷◌, ◌++◌, length, get_or, drop, Ok, Err}
use Rattle.laws.specs.Each.{Each}
use Rattle.quantities.specs.Paper.{Paper}
use Rattle.quantities.specs.declared.Table.{Table}
use Rattle.quantities.specs.Table.{rows_of}
use Rattle.laws.specs.Checks.{FirstFailing}
use Rattle.bench.specs.declared.Bench.{Bench}
use Rattle.bench.specs.declared.Request.{Request}
use Rattle.bench.specs.declared.Request.TheVariants.{Release, Tick}
use Rattle.bench.specs.declared.Finish.{Finish}
use Rattle.bench.specs.Refusal.{outcome_paper}
use Rattle.bench.specs.Step.{release, tick}
use Rattle.bench.specs.History.{Call, releases, ticks, do_call, call_of}
use Rattle.replay.specs.Format.{poll_bytes, answer_bytes}
use Rattle.replay.specs.declared.Unanswered.TheVariants.{NotOpened, NotACall, NoRoom}
use Rattle.replay.specs.Replay.{requests_in, Replay, replay}
use Rattle.rowpages.specs.Lists.{list_order, fault_at, ListInRange}
use Rattle.benchpages.specs.Calls.{new_bench}

-- A number in four bytes, most significant byte first.
abbrev pub number_of_four : (first second third fourth : ℕ) → ℕ
number_of_four first second third fourth = ((first * 256 + second) * 256 + third) * 256 + fourth

-- The calls of a replay, six bytes each: kind 1 is a release at a place with a demand of four bytes, kind 2 a
-- tick; what is neither, or shorter, is no call and ends them.
pub record RequestsRead : Type 0 where
  pub a_release : (place first second third fourth : ℕ) (rest : List ℕ)
      → requests_in (1 ∷ place ∷ first ∷ second ∷ third ∷ fourth ∷ rest)
      ≡ record {
        list = Release place (record { 0 = number_of_four first second third fourth }) ∷ (requests_in rest).list;
        whole = (requests_in rest).whole;
      }
  pub a_tick : (place first second third fourth : ℕ) (rest : List ℕ)
      → requests_in (2 ∷ place ∷ first ∷ second ∷ third ∷ fourth ∷ rest)
      ≡ record { list = Tick ∷ (requests_in rest).list; whole = (requests_in rest).whole }
  pub no_such_kind : (kind place first second third fourth : ℕ) (rest : List ℕ)
      → (kind ≡ 1 → ⊥) → (kind ≡ 2 → ⊥)
      → requests_in (kind ∷ place ∷ first ∷ second ∷ third ∷ fourth ∷ rest)
      ≡ record { list = []; whole = false }
  pub cut_short : (bytes : List ℕ) → 1 ≤ length bytes → length bytes < 6
      → requests_in bytes ≡ record { list = []; whole = false }
  pub no_more : requests_in [] ≡ record { list = []; whole = true }

-- and what each does on a bench
abbrev pub RequestsDone : Type 0
RequestsDone =
    ((b : Bench) (place demand : ℕ)
    → do_call b (call_of (Release place (record { 0 = demand }))) ≡ release b place demand)
    × ((b : Bench) → do_call b (call_of Tick) ≡ tick b)

-- A poll that ended, in five bytes: its place, and its response in four.
pub record PollIn (poll : Finish) (bytes : List ℕ) : Type 0 where
  pub first : ℕ
  pub second : ℕ
  pub third : ℕ
  pub fourth : ℕ
  pub are : bytes ≡ poll.place ∷ first ∷ second ∷ third ∷ fourth ∷ []
  pub response : number_of_four first second third fourth ≡ poll.response.0
  pub are_bytes : Each (λ byte. byte < 256) bytes

abbrev pub PollComesBack : Type 0
PollComesBack =
    (poll : Finish) → poll.place < 256 → poll.response.0 < 4294967296 → PollIn poll (poll_bytes poll)

-- Each poll that a call's answer lists is so: its place is at most 32, its response at most 1,000,000,000.
abbrev pub PollsFit : Type 0
PollsFit =
    (b : Bench) (call : Call)
    → (length (do_call b call).finishes ≤ 32)
    × Each (λ poll. (poll.place ≤ 32) × (poll.response.0 ≤ 1000000000)) (do_call b call).finishes

-- Polls read back from bytes, this many, five bytes each.
abbrev pub polls_on : (count : ℕ) → List ℕ → List Finish
polls_on zero bytes = []
polls_on (suc n) bytes =
    record {
      place = get_or bytes 0 0;
      response = record { 0 = number_of_four (get_or bytes 1 0) (get_or bytes 2 0) (get_or bytes 3 0) (get_or bytes 4 0) };
    }
    ∷ polls_on n (drop 5 bytes)

-- An answer: its number, its place, how many polls ended, and these.
pub record AnswerIn (b : Bench) (call : Call) : Type 0 where
  pub polls : List ℕ
  pub bytes :
      answer_bytes (do_call b call)
      ≡ (outcome_paper (do_call b call).outcome).number
      ∷ (outcome_paper (do_call b call).outcome).place
      ∷ length (do_call b call).finishes
      ∷ polls
  pub comes_back : polls_on (length (do_call b call).finishes) polls ≡ (do_call b call).finishes
  pub long : length polls ≡ 5 * length (do_call b call).finishes

-- It comes back whole, since the place of a call is one byte.
abbrev pub AnswerComesBack : Type 0
AnswerComesBack =
    ((b : Bench) (place demand : ℕ) → place < 256 → AnswerIn b (releases place demand))
    × ((b : Bench) → AnswerIn b ticks)

-- The answers to calls, one after the other: each call meets the bench that the one before it left.
abbrev pub answers_to : Bench → List Request → List ℕ
answers_to b [] = []
answers_to b (request ∷ rest) =
    answer_bytes (do_call b (call_of request)) ++ answers_to (do_call b (call_of request)).bench rest

-- A replay on a board that is opened, where the buffer has room for all answers: they stand in its first
-- bytes, every later byte is as it was, and it says how many they are, or at which byte there is no call.
pub record ReplayAnswers (b : Bench) (calls out : List ℕ) (done : Replay) : Type 0 where
  pub written :
      done.out
      ≡ answers_to b (requests_in calls).list ++ drop (length (answers_to b (requests_in calls).list)) out
  pub all : (requests_in calls).whole ≡ true
      → done.answer ≡ Ok (length (answers_to b (requests_in calls).list))
  pub no_call : (requests_in calls).whole ≡ false
      → done.answer ≡ Err (NotACall (6 * length (requests_in calls).list))

abbrev pub ReplayAnswered : Type 0
ReplayAnswered =
    (cores : ℕ) (table : Table) → ListInRange cores (rows_of table)
    → (calls out : List ℕ) → length (answers_to (new_bench cores table) (requests_in calls).list) ≤ length out
    → ReplayAnswers (new_bench cores table) calls out (replay cores table calls out)

-- Where there is room for the answers to the first calls and not for the next one, these are written, and it
-- says at which byte the call stands that has no room.
abbrev pub ReplayNoRoom : Type 0
ReplayNoRoom =
    (cores : ℕ) (table : Table) → ListInRange cores (rows_of table)
    → (calls out : List ℕ) (done rest : List Request) (next : Request)
    → (requests_in calls).list ≡ done ++ next ∷ rest
    → length (answers_to (new_bench cores table) done) ≤ length out
    → length out < length (answers_to (new_bench cores table) (done ++ next ∷ []))
    → replay cores table calls out
    ≡ record {
      answer = Err (NoRoom (6 * length done));
      out =
          answers_to (new_bench cores table) done ++ drop (length (answers_to (new_bench cores table) done)) out;
    }

-- A table that fails one of 1 to 6 is answered by its fault, and nothing is written.
abbrev pub ReplayNotOpened : Type 0
ReplayNotOpened =
    (cores : ℕ) (table : Table) (one : Paper) → FirstFailing (list_order cores (rows_of table)) one
    → (calls out : List ℕ)
    → replay cores table calls out
    ≡ record { answer = Err (NotOpened (fault_at one.number one.place)); out = out }
