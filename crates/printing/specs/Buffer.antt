-- A lent buffer, and bytes put into it from a place on.
use Rattle.std.specs.Prelude.{ℕ, ◌+◌, ◌≤◌, ◌≡◌, List, ◌++◌, length, take, drop}

-- a buffer with bytes laid over it from a place on: what was before that place and behind the bytes stays
unfoldable pub overlaid : List ℕ → ℕ → List ℕ → List ℕ
overlaid buffer at bytes = take at buffer ++ bytes ++ drop (at + length bytes) buffer

-- Bytes were put into a buffer from a place on: they fit, it holds them and else what it held, and the next
-- place is the one behind them.
pub record Puts (buffer : List ℕ) (at : ℕ) (bytes after : List ℕ) (next : ℕ) : Type 0 where
  pub fits : at + length bytes ≤ length buffer
  pub lies : after ≡ overlaid buffer at bytes
  pub ends : next ≡ at + length bytes
