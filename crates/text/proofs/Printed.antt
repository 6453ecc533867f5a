-- Laws of the text in a lent buffer: how the contract is met, and what it says.
use Prim.Native.Nat.{ℕ, ◌+◌, ◌≤◌, ◌<◌}
use native.Mathlib.Omega.{arith}
use mathlib.Core.Path.{◌≡◌, refl, sym, ◌∙◌}
use mathlib.Core.List.{List, ◌++◌}
use lib.ListN.{length, take, drop}
use lib.Seq.{length-take-le, take-append_seam, drop-append_seam}
use borrow.Author.Tests.{lt-ltb, le-ltb}
use Rattle.printing.specs.Buffer.{overlaid, Puts}
use Rattle.printing.proofs.Buffer.{length_puts}
use Rattle.text.specs.Text.{text_of}
use Rattle.text.specs.Printed.{text_room, buffer_after, count_in, Printed}

module _ (sheet buffer : List ℕ) where
  -- a buffer that is too short is left as it is
  pub printed_nothing : length buffer < text_room → Printed sheet buffer buffer 0
  unfolding buffer_after count_in
  printed_nothing h =
      record {
        holds = rw (lt-ltb (length buffer) text_room h, buffer_after) refl;
        counts = rw (lt-ltb (length buffer) text_room h, count_in) refl;
        enough = λ k. absurd (omega arith);
        within = omega arith;
        part = refl;
      }

  -- one with room enough has the text at its front
  pub printed : (after : List ℕ) (count : ℕ) → text_room ≤ length buffer → Puts buffer 0 (text_of sheet) after count
      → length (text_of sheet) ≤ text_room → Printed sheet buffer after count
  unfolding buffer_after count_in
  printed after count h p short =
      let kept = length_puts p in
      let l : count ≤ length after = omega (arith, p.ends) in
      record {
        holds = rw (le-ltb (length buffer) text_room h, buffer_after) p.lies;
        counts = rw (le-ltb (length buffer) text_room h, count_in) (omega (arith, p.ends));
        enough = λ k. short;
        within = l;
        part = sym (length-take-le count after l);
      }

-- What the contract says of a buffer with room enough: the text stands at its front, and every later byte is
-- as it was.
pub text_in_front : (sheet buffer after : List ℕ) (count : ℕ) → text_room ≤ length buffer → Printed sheet buffer after count
    → (take count after ≡ text_of sheet) × (drop count after ≡ drop count buffer)
unfolding buffer_after count_in overlaid
text_in_front sheet buffer after count h p =
    let long : count ≡ length (text_of sheet) = rw (le-ltb (length buffer) text_room h, count_in) at p.counts in
    let lies : after ≡ text_of sheet ++ drop (0 + length (text_of sheet)) buffer =
    rw (le-ltb (length buffer) text_room h, buffer_after) at p.holds in
    let same : 0 + length (text_of sheet) ≡ length (text_of sheet) = omega arith in (
      rw (lies, long) (take-append_seam (text_of sheet) (drop (0 + length (text_of sheet)) buffer)),
      rw (lies, long, drop-append_seam (text_of sheet) (drop (0 + length (text_of sheet)) buffer), same) refl,
    )

-- of one that is too short: it is as it was, and none of its bytes is the text
pub nothing_written : (sheet buffer after : List ℕ) (count : ℕ) → length buffer < text_room → Printed sheet buffer after count
    → (after ≡ buffer) × (count ≡ 0)
unfolding buffer_after count_in
nothing_written sheet buffer after count h p =
    (rw (lt-ltb (length buffer) text_room h, buffer_after) at p.holds, rw (lt-ltb (length buffer) text_room h, count_in) at p.counts)

-- two outcomes that meet the contract are the same
pub one_printing : (sheet buffer a b : List ℕ) (m n : ℕ) → Printed sheet buffer a m → Printed sheet buffer b n → (a ≡ b) × (m ≡ n)
one_printing sheet buffer a b m n p q = (p.holds ∙ sym q.holds, p.counts ∙ sym q.counts)
