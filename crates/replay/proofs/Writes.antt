-- Laws of answers as bytes: what a run of stores leaves in the buffer.
use Prim.Native.Nat.{ℕ, suc, ◌+◌, ◌*◌, ◌≤◌, ◌<◌}
use native.Mathlib.Omega.{arith}
use native.Mathlib.Nat.{add-zero}
use native.Mathlib.Numerals.{add-one}
use mathlib.Core.Path.{◌≡◌, refl, sym, ap, ◌∙◌}
use mathlib.Core.List.{List, [], ◌∷◌, ◌++◌}
use lib.ListN.{length, get_or, take, drop, set, length-append, drop_of_length-le}
use lib.Seq.{sets, sets-eq, length-sets, drop-cons, drop-drop}
use borrow.Rule.Slice.PartMut.{put_mid}
use Rattle.std.proofs.Common.{append_assoc}
use Rattle.bench.specs.declared.Finish.{Finish}
use Rattle.bench.specs.declared.Finishes.{Finishes}
use Rattle.bench.specs.Refusal.{Outcome, outcome_paper}
use Rattle.replay.specs.Format.{byte_of, poll_bytes, polls_bytes, answer_of}

-- stores of one list after another
pub sets_append : (out : List ℕ) (at : ℕ) (xs ys : List ℕ) → sets out at (xs ++ ys) ≡ sets (sets out at xs) (at + length xs) ys
sets_append out at [] ys = rw add-zero
sets_append out at (x ∷ xs) ys =
    let e : suc at + length xs ≡ at + suc (length xs) = omega arith in
    sets_append (set out at x) (suc at) xs ys ∙ ap (λ n. sets (sets out at (x ∷ xs)) n ys) e

-- a part of the buffer that is overwritten as a whole
pub put_is_sets : (out : List ℕ) (at k : ℕ) (bytes : List ℕ) → length bytes ≡ k → at + k ≤ length out
    → put_mid at k out bytes ≡ sets out at bytes
put_is_sets out at k bytes e h =
    let all = sets-eq bytes out at (omega arith) in
    rw (all, e, drop-drop k at out, append_assoc)

-- the polls that a list counts
abbrev pub counted : Finishes → List Finish
counted polls = take polls.count polls.list

-- Before the turn at index i: what is written, and the polls from i on, make the whole.
pub record Writes (out₀ : List ℕ) (from : ℕ) (polls : Finishes) (out : List ℕ) (i : ℕ) : Type 0 where
  pub same_length : length out ≡ length out₀
  pub rest : sets out (from + 5 * i) (polls_bytes (drop i (counted polls))) ≡ sets out₀ from (polls_bytes (counted polls))

pub writes_first : (out : List ℕ) (from : ℕ) (polls : Finishes) → Writes out from polls out 0
writes_first out from polls = record { same_length = refl; rest = rw add-zero }

pub writes_next : (out₀ : List ℕ) (from : ℕ) (polls : Finishes) (out : List ℕ) (i : ℕ) → Writes out₀ from polls out i → i < length (counted polls)
    → (any : Finish) (out' : List ℕ) → out' ≡ sets out (from + 5 * i) (poll_bytes (get_or (counted polls) i any)) → Writes out₀ from polls out' (i + 1)
unfolding polls_bytes
writes_next out₀ from polls out i w h any out' e =
    let bytes = poll_bytes (get_or (counted polls) i any) in
    let next = drop-cons (counted polls) i any h in
    let at : from + 5 * (i + 1) ≡ from + 5 * i + 5 = omega arith in
    record {
      same_length = rw e (length-sets out (from + 5 * i) bytes ∙ w.same_length);
      rest = rw (at, e, add-one) (sym (sets_append out (from + 5 * i) bytes (polls_bytes (drop (suc i) (counted polls)))) ∙ (rw next at w.rest));
    }

pub writes_last : (out₀ : List ℕ) (from : ℕ) (polls : Finishes) (out : List ℕ) (i : ℕ) → Writes out₀ from polls out i → length (counted polls) ≤ i
    → out ≡ sets out₀ from (polls_bytes (counted polls))
unfolding polls_bytes
writes_last out₀ from polls out i w h =
    let e : drop i (counted polls) ≡ [] = drop_of_length-le (counted polls) {i = i} h in
    rw e at w.rest

-- three bytes in front of the polls' bytes are an answer
pub answer_written : (out : List ℕ) (at k : ℕ) (outcome : Outcome) (polls : List Finish) (bytes : List ℕ) → k ≡ 3 → at + 3 ≤ length out
    → bytes ≡ (outcome_paper outcome).number ∷ byte_of (outcome_paper outcome).place ∷ byte_of (length polls) ∷ []
    → sets (put_mid at k out bytes) (at + 3) (polls_bytes polls) ≡ sets out at (answer_of outcome polls)
answer_written out at k outcome polls bytes three h e =
    let long : length bytes ≡ 3 = ap length e in
    rw (three, put_is_sets out at 3 bytes long h, e) (sym (sets_append out at ((outcome_paper outcome).number ∷ byte_of (outcome_paper outcome).place ∷ byte_of (length polls) ∷ []) (polls_bytes polls)))

-- the bytes of polls are five for each
pub length_polls : (polls : List Finish) → length (polls_bytes polls) ≡ 5 * length polls
unfolding polls_bytes
length_polls [] = refl
length_polls (poll ∷ polls) = omega (arith, length-append (poll_bytes poll) (polls_bytes polls), length_polls polls)

pub ruleset polls_written = (writes_first, writes_next, writes_last)
