-- Laws of decimal digits: the two equations, the library's digits, how many there are, and the number that they give back.
use Prim.Native.Nat.{ℕ, zero, suc, ◌+◌, ◌-◌, ◌*◌, ◌/◌, ◌%◌, ◌^◌, ◌≤◌, ◌<◌}
use native.Mathlib.Omega.{arith}
use mathlib.Core.Path.{◌≡◌, refl, sym, ap, ◌∙◌}
use mathlib.Core.List.{List, [], ◌∷◌, ◌++◌}
use lib.ListN.{length, get_or, length-append}
use native.Mathlib.Nat.{pow-suc}
use native.Mathlib.Decide.{dec_lt}
use Rattle.std.proofs.lemmas.Fmt.{decimal_from_appends, length-decimal-le_succ, length-decimal-le}
use Rattle.std.specs.Fmt as std
use borrow.Author.Tests.{lt-ltb, le-ltb}
use Rattle.printing.specs.Decimal.{digit, digits_in, decimal, read_after, number_room}

-- one digit more than the tenth has, or one
digits_one : (most n : ℕ) → n < 10 → digits_in (suc most) n ≡ digit n ∷ []
unfolding digits_in
digits_one most n h = rw (lt-ltb n 10 h, digits_in)

digits_more : (most n : ℕ) → 10 ≤ n → digits_in (suc most) n ≡ digits_in most (n / 10) ++ (digit (n % 10) ∷ [])
unfolding digits_in
digits_more most n h = rw (le-ltb n 10 h, digits_in)

-- two counts that are both above the number give the same digits
digits_same : (a b n : ℕ) → n < a → n < b → digits_in a n ≡ digits_in b n
digits_same zero b n h k = absurd (omega arith)
digits_same (suc a) zero n h k = absurd (omega arith)
digits_same (suc a) (suc b) n h k =
    elim (dec_lt n 10) [
      | yes one ↦ digits_one a n one ∙ sym (digits_one b n one)
      | no more ↦
          digits_more a n (omega arith)
          ∙ ap (λ (ds : List ℕ). ds ++ (digit (n % 10) ∷ [])) (digits_same a b (n / 10) (omega arith) (omega arith))
          ∙ sym (digits_more b n (omega arith))
    ]

-- a number below ten has one digit
pub decimal_one : (n : ℕ) → n < 10 → decimal n ≡ digit n ∷ []
unfolding decimal
decimal_one n h = digits_one n n h

-- any other has those of its tenth, and then its last
pub decimal_more : (n : ℕ) → 10 ≤ n → decimal n ≡ decimal (n / 10) ++ (digit (n % 10) ∷ [])
unfolding decimal
decimal_more n h =
    digits_more n n h
    ∙ ap (λ (ds : List ℕ). ds ++ (digit (n % 10) ∷ [])) (digits_same n (suc (n / 10)) (n / 10) (omega arith) (omega arith))

-- a number below a power of ten has no more digits than that
pub decimal_short : (k n : ℕ) → n < 10 ^ suc k → length (decimal n) ≤ suc k
decimal_short zero n h = rw (decimal_one n h) (omega arith)
decimal_short (suc k) n h =
    elim (dec_lt n 10) [
      | yes one ↦ rw (decimal_one n one) (omega arith)
      | no more ↦
          let tenth = decimal_short k (n / 10) (omega (arith, pow-suc 10 (suc k))) in
          omega (arith, simp length-append at (ap length (decimal_more n (omega arith))))
    ]

-- the library's digits of a number in 64 bits are these
pub decimal_as_std : (n : ℕ) → n < 2 ^ 64 → std.decimal n ≡ decimal n
unfolding decimal
decimal_as_std n h =
    sym (decimal_from_appends digits_in (record { one = digits_one; more = digits_more }) (suc n) n h (omega (arith, length-decimal-le_succ n h)))

-- a number in 64 bits has at most twenty digits
pub decimal_room : (n : ℕ) → n < 2 ^ 64 → length (decimal n) ≤ number_room
decimal_room n h = rw (← decimal_as_std n h) (length-decimal-le 20 n (omega arith) (omega arith) h)

-- the digits of a number give it back
read_append : (high : ℕ) (xs : List ℕ) (byte : ℕ)
    → read_after high (xs ++ (byte ∷ [])) ≡ read_after high xs * 10 + (byte - digit 0)
unfolding read_after
read_append high [] byte = refl
read_append high (x ∷ xs) byte = read_append (high * 10 + (x - digit 0)) xs byte

read_digits : (most n : ℕ) → n < most → read_after 0 (digits_in most n) ≡ n
unfolding read_after
read_digits zero n h = absurd (omega arith)
read_digits (suc most) n h =
    elim (dec_lt n 10) [
      | yes one ↦ rw (digits_one most n one) (omega arith)
      | no more ↦
          let tenth = read_digits most (n / 10) (omega arith) in
          rw (digits_more most n (omega arith), read_append, tenth) (omega arith)
    ]

pub read_decimal : (n : ℕ) → read_after 0 (decimal n) ≡ n
unfolding decimal
read_decimal n = read_digits (suc n) n (omega arith)

-- no number but 0 begins with the digit 0
digits_lead : (most n : ℕ) → n < most → 0 < n → digit 0 < get_or (digits_in most n) 0 0
digits_lead zero n h some = absurd (omega arith)
digits_lead (suc most) n h some =
    elim (dec_lt n 10) [
      | yes one ↦ rw (digits_one most n one) (omega arith)
      | no more ↦ go (digits_in most (n / 10)) (digits_lead most (n / 10) (omega arith) (omega arith)) (digits_more most n (omega arith))
    ]
  where
    go : (tenth : List ℕ) → digit 0 < get_or tenth 0 0 → digits_in (suc most) n ≡ tenth ++ (digit (n % 10) ∷ [])
        → digit 0 < get_or (digits_in (suc most) n) 0 0
    go [] lead e = absurd (omega arith)
    go (d ∷ tenth) lead e = rw e lead

pub decimal_lead : (n : ℕ) → 0 < n → digit 0 < get_or (decimal n) 0 0
unfolding decimal
decimal_lead n some = digits_lead (suc n) n (omega arith) some
