-- Laws of bytes put into a buffer: nothing, one byte, bytes behind others, and a part that is written over.
use Prim.Native.Nat.{ℕ, ◌+◌, ◌≤◌, ◌<◌}
use native.Mathlib.Omega.{arith}
use native.Mathlib.Nat.{add_assoc}
use native.Mathlib.Numerals.{add-one}
use mathlib.Core.Path.{◌≡◌, refl, sym, ap, ◌∙◌}
use mathlib.Core.List.{List, [], ◌∷◌, ◌++◌, append_assoc, append-nil}
use lib.ListN.{length, get_or, take, drop, set, length-append, length-drop, take-append-drop}
use lib.Seq.{append_snoc, length-take-le, take-suc, take_at, drop-append-add, drop-drop, set_split}
use borrow.Rule.Slice.PartMut.{put_mid}
use Rattle.printing.specs.Buffer.{overlaid, Puts}

module _ (buffer : List ℕ) (at : ℕ) where
  -- a buffer keeps its length
  pub length_overlaid : (bytes : List ℕ) → at + length bytes ≤ length buffer
      → length (overlaid buffer at bytes) ≡ length buffer
  unfolding overlaid
  length_overlaid bytes h =
      let l : at ≤ length buffer = omega arith in
      simp (length-append, length-drop, length-take-le at buffer l) (omega arith)

  -- bytes behind bytes
  overlaid_twice : (xs ys : List ℕ) → at ≤ length buffer
      → overlaid (overlaid buffer at xs) (at + length xs) ys ≡ overlaid buffer at (xs ++ ys)
  unfolding overlaid
  overlaid_twice xs ys h =
      let l : length (take at buffer ++ xs) ≡ at + length xs = simp (length-append, length-take-le at buffer h) in
      let front = take_at (take at buffer ++ xs) (drop (at + length xs) buffer) (at + length xs) l in
      let back : drop (at + length xs + length ys) (take at buffer ++ xs ++ drop (at + length xs) buffer) ≡ drop (at + length (xs ++ ys)) buffer
      = rw (← l, drop-append-add, l, drop-drop, length-append, add_assoc) in
      rw (front, back, append_assoc (take at buffer) xs ys)

  pub puts_nothing : at ≤ length buffer → Puts buffer at [] buffer at
  unfolding overlaid
  puts_nothing h = record {
    fits = omega arith;
    lies = let same : at + 0 ≡ at = omega arith in rw (append-nil, same, take-append-drop);
    ends = omega arith;
  }

  pub puts_byte : (byte : ℕ) → at < length buffer → Puts buffer at (byte ∷ []) (set buffer at byte) (at + 1)
  unfolding overlaid
  puts_byte byte h = record {
    fits = omega arith;
    lies = rw (set_split buffer at byte h, add-one, append_snoc);
    ends = omega arith;
  }

-- a buffer keeps its length
pub length_puts : {b c xs : List ℕ} {at n : ℕ} → Puts b at xs c n → length c ≡ length b
length_puts {b} {c} {xs} {at} p = ap length p.lies ∙ length_overlaid b at xs p.fits

-- bytes behind bytes, from the place where those ended
pub puts_then : {b c d xs ys : List ℕ} {at n m : ℕ} → Puts b at xs c n → Puts c n ys d m → Puts b at (xs ++ ys) d m
puts_then {b} {c} {d} {xs} {ys} {at} {n} {m} p q =
    let kept = length_puts p in
    record {
      fits = rw length-append (omega (arith, p.ends, q.fits));
      lies = q.lies ∙ rw (p.lies, p.ends) (overlaid_twice b at xs ys (omega (arith, p.fits)));
      ends = rw length-append (omega (arith, p.ends, q.ends));
    }

-- one byte behind bytes
pub puts_more : {b c xs : List ℕ} {at n : ℕ} (byte : ℕ) → Puts b at xs c n → n < length b
    → Puts b at (xs ++ (byte ∷ [])) (set c n byte) (n + 1)
puts_more {c} {n} byte p h = puts_then p (puts_byte c n byte (omega (arith, length_puts p)))

-- one byte more of a word that fits
pub puts_word : (b : List ℕ) (at : ℕ) (word c : List ℕ) (i : ℕ) → at + length word ≤ length b → i < length word
    → Puts b at (take i word) c (at + i) → Puts b at (take (i + 1) word) (set c (at + i) (get_or word i 0)) (at + (i + 1))
puts_word b at word c i room h p =
    rw (add-one i, take-suc word i 0 h, ← add-one i, ← add_assoc) (puts_more (get_or word i 0) p (omega arith))

-- One outcome: any two that meet the statement are equal.
pub one_put : (buffer : List ℕ) (at : ℕ) (bytes after after' : List ℕ) (next next' : ℕ)
    → Puts buffer at bytes after next → Puts buffer at bytes after' next' → (after ≡ after') × (next ≡ next')
one_put buffer at bytes after after' next next' a b = (a.lies ∙ sym b.lies, a.ends ∙ sym b.ends)

-- a part that was written over is laid over the buffer
pub part_laid : (buffer : List ℕ) (at size : ℕ) (part bytes : List ℕ) → part ≡ bytes → size ≡ length bytes
    → put_mid at size buffer part ≡ overlaid buffer at bytes
unfolding overlaid
part_laid buffer at size part bytes same long =
    rw (same, long) (ap (λ (rest : List ℕ). take at buffer ++ (bytes ++ rest)) (drop-drop (length bytes) at buffer) ∙ sym (append_assoc (take at buffer) bytes (drop (at + length bytes) buffer)))
