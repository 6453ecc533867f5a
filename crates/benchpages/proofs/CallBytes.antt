-- The bytes of a replay: what specs/CallBytes.antt says of them holds.
use Prim.Native.Nat.{ℕ, suc, ◌+◌, ◌-◌, ◌*◌, ◌/◌, ◌%◌, ◌≤◌, ◌<◌}
use native.Mathlib.Nat.{zero-add, add-zero, div-add-mod', mod-lt, mod-eq_of_lt, div-div-eq-div-mul}
use native.Mathlib.Omega.{arith}
use mathlib.Core.Path.{◌≡◌, refl, sym, ap, subst, ◌∙◌}
use mathlib.Core.Bool.{Bool, false}
use mathlib.Core.List.{List, [], ◌∷◌, ◌++◌, map}
use lib.ListN.{length, drop, length-append}
use lib.Seq.{sets, sets-eq, length-sets}
use borrow.Author.Tests.{ne_eqb, lt-ltb, le-ltb}
use Rattle.std.specs.Prelude.{Ok, Err}
use Rattle.laws.specs.Each.{Each}
use Rattle.laws.proofs.Lists.{each_map}
use Rattle.quantities.specs.declared.Table.{Table}
use Rattle.quantities.specs.Table.{rows_of}
use Rattle.laws.proofs.Checks.{first_found, told_has}
use Rattle.quantities.proofs.Sound.{sound_list_means}
use Rattle.bench.specs.declared.Bench.{Bench}
use Rattle.bench.specs.declared.Finish.{Finish}
use Rattle.bench.specs.Refusal.{Outcome, outcome_paper, refusal_paper}
use Rattle.bench.specs.declared.Request.{Request}
use Rattle.bench.specs.Step.{empty_bench, opening_of, tick}
use Rattle.bench.specs.History.{Call, releases, ticks, do_call, call_of, steps}
use Rattle.bench.proofs.Steps.{release_no_polls}
use Rattle.bench.proofs.Fits.{polls_fit}
use Rattle.replay.specs.declared.Unanswered.TheVariants.{NoRoom}
use Rattle.replay.specs.Format.{request_of, polls_bytes, answer_bytes, answers_joined}
use Rattle.replay.specs.Replay.{requests_in, Replayed, Replay, ending, answered, replay_from, replay_after, replay}
use Rattle.replay.proofs.Calls.{replay_run, replay_not_opened as not_opened}
use Rattle.replay.proofs.Writes.{sets_append, length_polls}
use Rattle.replay.proofs.Turns.{polls_few}
use Rattle.rowpages.specs.Lists.{fault_at, ListInRange}
use Rattle.benchpages.specs.Calls.{call_order, new_bench}
use Rattle.benchpages.specs.CallBytes.{number_of_four, RequestsRead, RequestsDone, PollComesBack}
use Rattle.benchpages.specs.CallBytes.{PollsFit, polls_on, AnswerIn, AnswerComesBack}
use Rattle.benchpages.specs.CallBytes.{answers_to, ReplayAnswers, ReplayAnswered, ReplayNoRoom}
use Rattle.benchpages.specs.CallBytes.{ReplayNotOpened}
use Rattle.rowpages.proofs.Lists.{sound_in_range}
use Rattle.benchpages.proofs.Calls.{refused_call_has_fault}
use Rattle.benchpages.proofs.Openings.{opening_refused}

pub requests_read : RequestsRead
unfolding requests_in request_of
requests_read =
    record {
      a_release = λ place first second third fourth rest. refl;
      a_tick = λ place first second third fourth rest. refl;
      no_such_kind = λ kind place first second third fourth rest one two.
          rw (request_of, ne_eqb kind 2 two, ne_eqb kind 1 one);
      cut_short = short;
      no_more = refl;
    }
  where
    short : (bytes : List ℕ) → 1 ≤ length bytes → length bytes < 6
        → requests_in bytes ≡ record { list = []; whole = false }
    short [] some_bytes h = absurd (omega arith)
    short (a ∷ []) some_bytes h = refl
    short (a ∷ b ∷ []) some_bytes h = refl
    short (a ∷ b ∷ c ∷ []) some_bytes h = refl
    short (a ∷ b ∷ c ∷ d ∷ []) some_bytes h = refl
    short (a ∷ b ∷ c ∷ d ∷ e ∷ []) some_bytes h = refl
    short (a ∷ b ∷ c ∷ d ∷ e ∷ f ∷ rest) some_bytes h = absurd (omega arith)

pub requests_done : RequestsDone
unfolding call_of
requests_done = ((λ b place demand. refl), (λ b. refl))

-- a number below 256 · 256 · 256 · 256 is its four bytes
four_back : (n : ℕ) → n < 4294967296
    → number_of_four (n / 16777216 % 256) (n / 65536 % 256) (n / 256 % 256) (n % 256) ≡ n
four_back n h =
    let two : n / 256 / 256 ≡ n / 65536 = div-div-eq-div-mul n 256 256 in
    let three : n / 65536 / 256 ≡ n / 16777216 = div-div-eq-div-mul n 65536 256 in
    let top : n / 16777216 < 256 = omega (arith, div-add-mod' n 16777216) in
    let last = div-add-mod' n 256 in
    let third = div-add-mod' (n / 256) 256 in
    let second = div-add-mod' (n / 65536) 256 in
    omega (arith, mod-eq_of_lt top)

byte : (n : ℕ) → n % 256 < 256
byte n = mod-lt n (omega arith)

pub poll_comes_back : PollComesBack
poll_comes_back poll place response =
    let r = poll.response.0 in
    record {
      first = r / 16777216 % 256;
      second = r / 65536 % 256;
      third = r / 256 % 256;
      fourth = r % 256;
      are = rw (mod-eq_of_lt place);
      response = four_back r (omega arith);
      are_bytes =
          (byte poll.place, (byte (r / 16777216), (byte (r / 65536), (byte (r / 256), (byte r, tt)))));
    }

pub polls_fit_bytes : PollsFit
polls_fit_bytes b (releases place demand) = rw (release_no_polls b place demand) (omega arith, tt)
polls_fit_bytes b ticks =
    (polls_few b ticks, each_map (λ poll fit. (fit.place, fit.response)) (tick b).finishes (polls_fit b))

-- polls that fit come back from their bytes
polls_back : (polls : List Finish)
    → Each (λ poll. (poll.place ≤ 32) × (poll.response.0 ≤ 1000000000)) polls
    → polls_on (length polls) (polls_bytes polls) ≡ polls
unfolding polls_bytes
polls_back [] fit = refl
polls_back (poll ∷ polls) ((place, response), fit) =
    let same_place : poll.place % 256 ≡ poll.place = mod-eq_of_lt (omega arith) in
    let same_response = four_back poll.response.0 (omega arith) in
    rw (same_place, same_response, polls_back polls fit)

-- the place of an answer is that of one of the call's checks, or 0
small_place : (b : Bench) (call : Call) → Each (λ one. one.told.place < 256) (call_order b call)
    → (outcome_paper (do_call b call).outcome).place < 256
unfolding outcome_paper
small_place b call small = go (do_call b call).outcome refl
  where
    go : (outcome : Outcome) → (do_call b call).outcome ≡ outcome
        → (outcome_paper (do_call b call).outcome).place < 256
    go (Ok done) q = rw q (omega arith)
    go (Err why) q =
        let found = first_found (call_order b call) (refusal_paper why) (refused_call_has_fault b call why q) in
        rw q (told_has (λ one. one.place < 256) (refusal_paper why) (call_order b call) small found)

answer_in_lem : (b : Bench) (call : Call) → (outcome_paper (do_call b call).outcome).place < 256 → AnswerIn b call
answer_in_lem b call small =
    let (few, fit) = polls_fit_bytes b call in
    let polls = (do_call b call).finishes in
    let count : length polls % 256 ≡ length polls = mod-eq_of_lt (omega arith) in
    record {
      polls = polls_bytes polls;
      bytes = rw (mod-eq_of_lt small, count);
      comes_back = polls_back polls fit;
      long = length_polls polls;
    }

pub answer_comes_back : AnswerComesBack
answer_comes_back = (
  (λ b place demand small.
      answer_in_lem b (releases place demand)
      (small_place b (releases place demand) (omega arith, (small, (small, (small, (small, tt))))))),
  (λ b. answer_in_lem b ticks (small_place b ticks (omega arith, (omega arith, tt)))),
)

-- the answers one after the other are those of the run
answers_run : (requests : List Request) (b : Bench)
    → answers_joined (steps b (map call_of requests)) ≡ answers_to b requests
unfolding steps
answers_run [] b = refl
answers_run (request ∷ rest) b =
    ap (λ (later : List ℕ). answer_bytes (do_call b (call_of request)) ++ later)
    (answers_run rest (do_call b (call_of request)).bench)

-- bytes laid at the start of a buffer
laid_first : (bytes out : List ℕ) → length bytes ≤ length out
    → sets out 0 bytes ≡ bytes ++ drop (length bytes) out
laid_first bytes out room =
    sets-eq bytes out 0 (omega arith) ∙ ap (λ n. bytes ++ drop n out) (zero-add (length bytes))

-- A run of requests from a bench, where there is room for all answers.
run_answered : (whole : Bool) (requests : List Request) (b : Bench) (out : List ℕ)
    → length (answers_to b requests) ≤ length out
    → answered whole b requests 0 0 out
    ≡ record {
      answer = ending whole (6 * length requests) (length (answers_to b requests));
      out = answers_to b requests ++ drop (length (answers_to b requests)) out;
    }
run_answered whole requests b out room =
    let same = answers_run requests b in
    let fits : 0 + length (answers_joined (steps b (map call_of requests))) ≤ length out = rw same (omega arith) in
    let run = rw same at (replay_run whole requests b 0 0 out fits) in
    let calls = zero-add (6 * length requests) in
    let bytes = zero-add (length (answers_to b requests)) in
    rw (run, calls, bytes, laid_first (answers_to b requests) out room)

answers_of_run : (b : Bench) (calls out : List ℕ) → length (answers_to b (requests_in calls).list) ≤ length out
    → ReplayAnswers b calls out (replay_from b calls out)
answers_of_run b calls out room =
    let requests = (requests_in calls).list in
    let run = run_answered (requests_in calls).whole requests b out room in
    let says : Bool → Replayed = λ w. ending w (6 * length requests) (length (answers_to b requests)) in
    record {
      written = ap (λ (r : Replay). r.out) run;
      all = λ whole. ap (λ (r : Replay). r.answer) run ∙ ap says whole;
      no_call = λ whole. ap (λ (r : Replay). r.answer) run ∙ ap says whole;
    }

-- a replay on a board that is opened begins with the new bench
replay_new : (cores : ℕ) (table : Table) → ListInRange cores (rows_of table) → (calls out : List ℕ)
    → replay cores table calls out ≡ replay_from (new_bench cores table) calls out
unfolding replay replay_after empty_bench
replay_new cores table inside calls out =
    rw ((sound_list_means cores (rows_of table)).1 (sound_in_range cores (rows_of table) inside), replay_after)

pub replay_answered : ReplayAnswered
replay_answered cores table inside calls out room =
    subst (ReplayAnswers (new_bench cores table) calls out) (sym (replay_new cores table inside calls out))
    (answers_of_run (new_bench cores table) calls out room)

-- A run of requests that stops at the first answer without room, from a byte of the calls and of the buffer.
stops_at : (whole : Bool) (done rest : List Request) (next : Request) (b : Bench) (place at : ℕ)
    → (out : List ℕ)
    → at + length (answers_to b done) ≤ length out
    → length out < at + length (answers_to b (done ++ next ∷ []))
    → answered whole b (done ++ next ∷ rest) place at out
    ≡ record { answer = Err (NoRoom (place + 6 * length done)); out = sets out at (answers_to b done) }
unfolding answered
stops_at whole [] rest next b place at out room none_left =
    let bytes = answer_bytes (do_call b (call_of next)) in
    let short : length out - at < length bytes = omega (arith, length-append bytes []) in
    rw (answered, lt-ltb (length out - at) (length bytes) short, add-zero)
stops_at whole (request ∷ done) rest next b place at out room none_left =
    let step = do_call b (call_of request) in
    let bytes = answer_bytes step in
    let later = answers_to step.bench done in
    let last = answers_to step.bench (done ++ next ∷ []) in
    let both = length-append bytes later in
    let all = length-append bytes last in
    let long = length-sets out at bytes in
    let fits : length bytes ≤ length out - at = omega arith in
    let more =
    stops_at whole done rest next step.bench (place + 6) (at + length bytes) (sets out at bytes)
    (omega arith) (omega arith) in
    let p : place + 6 + 6 * length done ≡ place + 6 * suc (length done) = omega arith in
    rw (answered, le-ltb (length out - at) (length bytes) fits, sets_append out at bytes later, ← p) more

pub replay_no_room : ReplayNoRoom
replay_no_room cores table inside calls out done rest next these room none_left =
    replay_new cores table inside calls out ∙ stopped (new_bench cores table) room none_left
  where
    stopped : (b : Bench) → length (answers_to b done) ≤ length out
        → length out < length (answers_to b (done ++ next ∷ []))
        → replay_from b calls out
        ≡ record {
          answer = Err (NoRoom (6 * length done));
          out = answers_to b done ++ drop (length (answers_to b done)) out;
        }
    stopped b room none_left =
        let stops = stops_at (requests_in calls).whole done rest next b 0 0 out (omega arith) (omega arith) in
        rw (these, stops, zero-add (6 * length done), laid_first (answers_to b done) out room)

pub replay_not_opened : ReplayNotOpened
replay_not_opened cores table one first calls out =
    not_opened cores table calls out (opening_of cores table) refl (fault_at one.number one.place)
    (opening_refused cores table one first).found
