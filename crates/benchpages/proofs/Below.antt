-- Rows below make no difference, as specs/Below.antt says it.
use Prim.Native.Nat.{ℕ}
use mathlib.Core.Path.{◌≡◌, refl, sym, ap, ◌∙◌}
use mathlib.Core.Bool.{Bool, true, false}
use mathlib.Core.List.{List, [], ◌∷◌, map}
use lib.Dec.{leb}
use Rattle.bench.specs.declared.Bench.{Bench}
use Rattle.bench.specs.declared.Finish.{Finish}
use Rattle.bench.specs.History.{Call, releases, ticks, do_call, concerns, calls_to, finishes_to, Heard, heard}
use Rattle.windows.proofs.Prefix.{rows_below as answer_below}
use Rattle.running.specs.Below.{SameRows}
use Rattle.running.proofs.Below.{rows_below}
use Rattle.benchpages.specs.Below.{
  AnswerFromAbove,
  concerns_down_to,
  calls_down_to,
  HeardOfCall,
  polls_down_to,
  heard_down_to,
  RunFromAbove,
}
use Rattle.rowpages.proofs.Lists.{sound_in_range}

pub answer_from_above : AnswerFromAbove
answer_from_above k cores rows others range range' same =
    let alike = answer_below cores k rows others (sound_in_range cores rows range) (sound_in_range cores others range') same in
    record { bounds = alike.bounds; named = alike.named }

-- The words of the page are the definitions' own.
same_concerns : (k : ℕ) (call : Call) → concerns_down_to k call ≡ concerns k call
unfolding concerns
same_concerns k (releases place demand) = refl
same_concerns k ticks = refl

same_calls : (k : ℕ) (calls : List Call) → calls_down_to k calls ≡ calls_to k calls
unfolding calls_to
same_calls k [] = refl
same_calls k (call ∷ calls) = go (concerns k call) (same_concerns k call) (same_calls k calls)
  where
    go : (t : Bool) → concerns_down_to k call ≡ t → calls_down_to k calls ≡ calls_to k calls
        → calls_down_to k (call ∷ calls) ≡ elim t [ true ↦ call ∷ calls_to k calls | false ↦ calls_to k calls ]
    go true q later = rw (q, later) refl
    go false q later = rw (q, later) refl

same_polls : (k : ℕ) (polls : List Finish) → polls_down_to k polls ≡ finishes_to k polls
unfolding finishes_to
same_polls k [] = refl
same_polls k (poll ∷ polls) = go (leb poll.place k) refl (same_polls k polls)
  where
    go : (t : Bool) → leb poll.place k ≡ t → polls_down_to k polls ≡ finishes_to k polls
        → polls_down_to k (poll ∷ polls) ≡ finishes_to k (poll ∷ polls)
    go true q later = rw (q, finishes_to, later) refl
    go false q later = rw (q, finishes_to, later) refl

-- what is heard, in the words of the page
abbrev told : Heard → HeardOfCall
told one = record { outcome = one.outcome; polls = one.finishes }

same_heard : (k : ℕ) (b : Bench) (calls : List Call) → heard_down_to k b calls ≡ map told (heard k b calls)
unfolding heard
same_heard k b [] = refl
same_heard k b (call ∷ calls) =
    go (concerns k call) (same_concerns k call) (same_heard k (do_call b call).bench calls)
  where
    go : (t : Bool) → concerns_down_to k call ≡ t
        → heard_down_to k (do_call b call).bench calls ≡ map told (heard k (do_call b call).bench calls)
        → heard_down_to k b (call ∷ calls)
        ≡ map told
        (elim t [
          | true ↦
              record { outcome = (do_call b call).outcome; finishes = finishes_to k (do_call b call).finishes }
              ∷ heard k (do_call b call).bench calls
          | false ↦ heard k (do_call b call).bench calls
        ])
    go true q later = rw (q, later, same_polls k (do_call b call).finishes) refl
    go false q later = rw (q, later) refl

pub run_from_above : RunFromAbove
run_from_above k cores table other start start' same calls calls' alike =
    let rows_same : SameRows k cores table other start start' =
    record {
      opened_first = same.opened_first;
      opened_second = same.opened_second;
      tall_first = same.tall_first;
      tall_second = same.tall_second;
      rows = same.rows;
    } in
    let their_calls = sym (same_calls k calls) ∙ alike ∙ same_calls k calls' in
    let run = (rows_below k cores table other start start' rows_same).1 calls calls' their_calls in
    record {
      instant = run.instant;
      states = run.states;
      heard = same_heard k start calls ∙ ap (map told) run.answers ∙ sym (same_heard k start' calls');
    }
