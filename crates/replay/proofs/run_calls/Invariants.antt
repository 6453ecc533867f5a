-- run_calls answers the calls one after the other, as far as they are calls and there is room.
use Rattle.std.proofs.Common.{◌≡◌, ◌*◌, drop}
use Rattle.std.specs.Iterator.Adapters.{enumerate_source, enumerate_count}
use Rattle.std.specs.Slice.Iter.{chunks_rest, chunks_size}
use Rattle.replay.proofs.Turns.{Replays}
use Rattle.replay.proofs.run_calls.Given as goal

abbrev pub invariant-loop-i : goal.invariant-loop-i
invariant-loop-i l = record {
  size : chunks_size (enumerate_source l.i-iterator) ≡ 6;
  rest : chunks_rest (enumerate_source l.i-iterator) ≡ drop (6 * enumerate_count l.i-iterator) l.calls;
  replays : Replays l.fn.bench l.calls l.initial.out l.out l.bench (6 * enumerate_count l.i-iterator) l.at;
}
