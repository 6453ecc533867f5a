-- Words as bytes.
use Rattle.std.specs.Prelude.{ℕ, List, [], ◌∷◌}
use Prim.Native.Char.{code}
use Prim.Native.String.{String, [] as end, ◌∷◌ as ◌then◌}

-- the bytes of a word, one for each of its letters
abbrev pub ascii : String → List ℕ
ascii end = []
ascii (letter then word) = code letter ∷ ascii word
