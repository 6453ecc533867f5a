-- Numbers on a sheet: unsigned, most significant byte first.
use Rattle.std.specs.Prelude.{ℕ, ◌+◌, ◌*◌, List, [], ◌∷◌, take, drop}

-- the number that bytes give, after those before them gave `high`
unfoldable pub number_after : ℕ → List ℕ → ℕ
number_after high [] = high
number_after high (byte ∷ bytes) = number_after (high * 256 + byte) bytes

-- the number in this many bytes of a part, from a place on
unfoldable pub field : (at width : ℕ) → List ℕ → ℕ
field at width part = number_after 0 (take width (drop at part))
