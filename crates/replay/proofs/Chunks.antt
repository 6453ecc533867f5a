-- The calls in chunks of six bytes: what a chunk says, and what is left behind it.
use Prim.Native.Nat.{ℕ, ◌+◌, ◌*◌, ◌≤◌, min}
use native.Mathlib.Decide.{dec_le}
use native.Mathlib.Omega.{arith}
use mathlib.Core.Path.{◌≡◌, sym, ap, ◌∙◌}
use mathlib.Core.List.{List, [], ◌++◌}
use lib.ListN.{length, drop, length-append}
use lib.Seq.{drop-drop}
use Rattle.std.specs.Prelude.{Some}
use Rattle.std.proofs.Common.{append-nil}
use Rattle.std.proofs.lemmas.List.{nil_from_length, drop_at, get_or_append_left}
use Rattle.bench.specs.declared.Request.{Request}
use Rattle.replay.specs.Format.{request_in}
use Rattle.replay.proofs.Format.{request_first, requests_next}

-- six bytes, or all that are left, say whether a call stands there
request_front : (call rest : List ℕ) → length call ≡ min 6 (length (call ++ rest)) → request_in (call ++ rest) ≡ request_in call
request_front call rest h = go (dec_le 6 (length call))
  where
    go : Dec (6 ≤ length call) → request_in (call ++ rest) ≡ request_in call
    go (yes six) =
        rw
        (request_first call six, request_first (call ++ rest) (omega (arith, length-append call rest)), get_or_append_left call rest 0 0 (omega arith), get_or_append_left call rest 0 1 (omega arith), get_or_append_left call rest 0 2 (omega arith), get_or_append_left call rest 0 3 (omega arith), get_or_append_left call rest 0 4 (omega arith), get_or_append_left call rest 0 5 (omega arith))
    go (no few) =
        let none : rest ≡ [] = nil_from_length rest (omega (arith, length-append call rest)) in
        rw (none, append-nil)

module _ (calls rest call later : List ℕ) (count : ℕ) (here : rest ≡ drop (6 * count) calls) (cut : rest ≡ call ++ later)
    (size : length call ≡ min 6 (length rest)) where
  pub chunk_says : request_in (drop (6 * count) calls) ≡ request_in call
  chunk_says = ap request_in (sym here ∙ cut) ∙ request_front call later (size ∙ ap (λ (bytes : List ℕ). min 6 (length bytes)) cut)

  pub chunk_next : (request : Request) → request_in call ≡ Some request → later ≡ drop (6 * count + 6) calls
  chunk_next request e =
      let six : 6 ≤ length call = (requests_next call request e).0 in
      sym (drop_at call later 6 (omega arith)) ∙ ap (drop 6) (sym cut ∙ here) ∙ drop-drop 6 (6 * count) calls
