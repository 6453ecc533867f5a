-- What reads take from an input, one after the other, and where it stands in a room.
use borrow.Rule.Slice.PartMut.{put_mid, post_of}
use Rattle.std.proofs.Common.{◌≡◌, ℕ, ◌+◌, ◌≤◌, ◌<◌, ◌^◌, ◌/◌, ◌%◌, List, [], ◌++◌, length, take, Option, None, Some, Result, Ok, Err, sym, subst, ap, ◌∙◌, arith}
use Rattle.std.specs.Io.{ReadsAtMost}
use Rattle.std.specs.Io.KnownBytes.{Consumes, Keeps, ReadConsumes}
use Rattle.std.specs.Result.{result_unwrap_or}
use Rattle.std.proofs.lemmas.List.{append_assoc, length-append, length-take-le, take-append-le}
use Rattle.std.proofs.Math.Seq.{take-append-add, take-append_seam, take-length}
use Rattle.std.specs.Int.{w16, to_be_bytes}
use Rattle.streams.specs.Frames.{frame_of, EndsInside}

pub Consumes-append : (old between new : Option (List ℕ)) (xs ys : List ℕ) → Consumes old between xs → Consumes between new ys → Consumes old new (xs ++ ys)
Consumes-append None between new xs ys first second = tt
Consumes-append (Some all) None new xs ys first second = absurd first
Consumes-append (Some all) (Some rest) None xs ys first second = absurd second
Consumes-append (Some all) (Some rest) (Some left) xs ys first second =
    first ∙ ap (λ zs. xs ++ zs) second ∙ sym (append_assoc xs ys left)

pub Consumes-kept : (old new : Option (List ℕ)) → Keeps old new → Consumes old new []
Consumes-kept None new kept = tt
Consumes-kept (Some all) None kept = absurd kept
Consumes-kept (Some all) (Some rest) kept = sym kept

-- a read that fails takes no byte
pub Consumes-read : {E : Type 0} (old new : Option (List ℕ)) (r : Result ℕ E) (part : List ℕ) → ReadConsumes old new r part → Consumes old new (take (result_unwrap_or r 0) part)
Consumes-read old new (Ok n) part read = read.0
Consumes-read old new (Err why) part read = Consumes-kept old new read

pub ReadsAtMost-read : {E : Type 0} (r : Result ℕ E) (part : List ℕ) → ReadsAtMost r part → result_unwrap_or r 0 ≤ length part
ReadsAtMost-read (Ok n) part most = most.0
ReadsAtMost-read (Err why) part most = omega arith

-- the front of a room after a write to its rest
pub take-put_mid_more : (room part : List ℕ) (done size more : ℕ) → done ≤ length room → more ≤ length part → take (done + more) (put_mid done size room part) ≡ take done room ++ take more part
take-put_mid_more room part done size more within some =
    let front : length (take done room) ≡ done = length-take-le done room within in
    let whole = take-append-add (take done room) (part ++ post_of done size room) more in
    rw front at whole ∙ ap (λ zs. take done room ++ zs) (take-append-le more part (post_of done size room) some)

-- what is read of a head and of as many bytes as it names is their frame
pub Consumes-frame : (old between new : Option (List ℕ)) (head part rest : List ℕ) (n m size : ℕ) → Consumes old between (take n head) → Consumes between new (take m part) → n ≡ length head → m ≡ length part → size ≡ length part → to_be_bytes w16 size ≡ head → Consumes old new (frame_of (take size (part ++ rest)))
Consumes-frame old between new head part rest n m size first second all_of_head all_of_part sized named =
    let whole = rw (all_of_head, all_of_part, take-length head, take-length part) at (Consumes-append old between new (take n head) (take m part) first second) in
    let front : take size (part ++ rest) ≡ part = rw sized (take-append_seam part rest) in
    let Begun : List ℕ → Type 0 = λ bytes. Consumes old new (bytes ++ part) in
    rw (front, ← sized) (subst Begun (sym named) whole)

-- a head with fewer bytes than it names is no whole frame
pub EndsInside-bytes : (old between new : Option (List ℕ)) (head part : List ℕ) (n size : ℕ) → Consumes old between (take n head) → Consumes between new part → n ≡ length head → to_be_bytes w16 size ≡ head → size < 2 ^ 16 → length part < size → EndsInside old new
EndsInside-bytes old between new head part n size first second all_of_head named short few = record {
  taken = to_be_bytes w16 size ++ part;
  read = let Begun : List ℕ → Type 0 = λ bytes. Consumes old new (bytes ++ part) in
      let whole = rw (all_of_head, take-length head) at (Consumes-append old between new (take n head) part first second) in
      subst Begun (sym named) whole;
  cut = λ frame rest same.
      let high : size / 256 % 256 ≡ length frame / 256 % 256 = cc in
      let low : size % 256 ≡ length frame % 256 = cc in
      let bytes : part ≡ frame ++ rest = cc in
      absurd (omega (arith, ap length bytes, length-append frame rest));
}
