-- A whole replay: where the bytes are calls and there is room, the answers are those of the run of the definition.
use Rattle.std.specs.Prelude.{Ok}
use Prim.Native.Nat.{ℕ, ◌+◌, ◌≤◌}
use native.Mathlib.Omega.{arith}
use native.Mathlib.Nat.{zero-add}
use mathlib.Core.Path.{◌≡◌, ◌∙◌}
use mathlib.Core.Bool.{true}
use mathlib.Core.List.{List, map, ◌++◌}
use mathlib.Core.Option.{some}
use lib.ListN.{length, drop}
use lib.Seq.{sets-eq}
use Rattle.quantities.specs.declared.Table.{Table}
use Rattle.bench.specs.declared.Bench.{Bench}
use Rattle.bench.specs.Step.{opened}
use Rattle.bench.specs.History.{call_of, steps}
use Rattle.bench.proofs.Kept.{opened_empty}
use Rattle.replay.specs.Replay.{requests_in, replay, replay_after, replay_from}
use Rattle.replay.specs.Format.{answers_joined}
use Rattle.replay.proofs.Calls.{replay_run}

-- the bytes that answer the run of these calls from a bench
abbrev pub answers_of : Bench → (calls : List ℕ) → List ℕ
answers_of b calls = answers_joined (steps b (map call_of (requests_in calls).list))

-- The buffer begins with the answers, and every byte after them is as it was.
pub replay_is_run : (cores : ℕ) (table : Table) (b : Bench) → opened cores table ≡ some b → (calls out : List ℕ) → (requests_in calls).whole ≡ true
    → length (answers_of b calls) ≤ length out
    → replay cores table calls out ≡ record { answer = Ok (length (answers_of b calls)); out = answers_of b calls ++ drop (length (answers_of b calls)) out }
unfolding replay replay_after
replay_is_run cores table b o calls out whole fits =
    let (sound, same) = opened_empty cores table b o in
    let room : 0 + length (answers_of b calls) ≤ length out = omega arith in
    let first : replay cores table calls out ≡ replay_from b calls out = rw (sound, replay_after, same) in
    let run = replay_run (requests_in calls).whole (requests_in calls).list b 0 0 out room in
    let written = sets-eq (answers_of b calls) out 0 room in
    let count = zero-add (length (answers_of b calls)) in
    first ∙ run ∙ rw (whole, written, count)
