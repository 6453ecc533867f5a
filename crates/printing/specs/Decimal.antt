-- A number in decimal digits, as bytes.
use Rattle.std.specs.Prelude.{ℕ, zero, suc, ◌+◌, ◌-◌, ◌*◌, ◌/◌, ◌%◌, true, false, List, [], ◌∷◌, ◌++◌, ltb}

-- the byte of a digit from 0 to 9
abbrev pub digit : ℕ → ℕ
digit d = 48 + d

-- the digits of a number, the most significant first, at most this many: one for a number below ten, else those
-- of its tenth and then the last
unfoldable pub digits_in : ℕ → ℕ → List ℕ
digits_in zero n = []
digits_in (suc most) n =
    elim (ltb n 10) [ true ↦ digit n ∷ [] | false ↦ digits_in most (n / 10) ++ (digit (n % 10) ∷ []) ]

-- the digits of a number; it has no more digits than one more than itself
unfoldable pub decimal : ℕ → List ℕ
decimal n = digits_in (suc n) n

-- the number that digits give, read from the front after those before them gave `high`
unfoldable pub read_after : ℕ → List ℕ → ℕ
read_after high [] = high
read_after high (byte ∷ bytes) = read_after (high * 10 + (byte - digit 0)) bytes

-- the most digits of a number in 64 bits
abbrev pub number_room : ℕ
number_room = 20
