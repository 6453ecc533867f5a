-- The frames of the programs that are compared, and how they are answered one after the other.
use Rattle.std.specs.Prelude.{ℕ, ◌≡◌, Option, Result, Ok, Err, List, ◌++◌, length}
use Rattle.std.specs.Fn.{Mut, CalledAt}
use Rattle.std.specs.Int.{w16, to_be_bytes}
use Rattle.std.specs.Io.KnownBytes.{Consumes}
use Rattle.std.specs.List.{FoldsTo, flat_map}
use denote.Bor.{Bor}

-- A frame is the number of its bytes in two bytes, most significant byte first, and then the bytes.
abbrev pub frame_of : List ℕ → List ℕ
frame_of bytes = to_be_bytes w16 (length bytes) ++ bytes

-- What was taken from an input begins with no whole frame.
pub record EndsInside (old new : Option (List ℕ)) : Type 0 where
  pub taken : List ℕ
  pub read : Consumes old new taken
  pub cut : (frame rest : List ℕ) → taken ≡ frame_of frame ++ rest → ⊥

-- These frames were taken from an input, one after the other, and each was answered with success.
pub record Answered {F E : Type 0} (g : Mut F (Bor (List ℕ) × Unit {0}) (Result (Unit {0}) E)) (old new : Option (List ℕ)) (before after : F) (frames : List (List ℕ)) : Type 0 where
  pub read : Consumes old new (flat_map frame_of frames)
  pub answers : FoldsTo (λ f frame f'. CalledAt g f frame (Ok tt) f') before frames after

-- After frames that were answered with success came one whose answer failed, for this reason; nothing was taken past it.
pub record FailsAt {F E : Type 0} (g : Mut F (Bor (List ℕ) × Unit {0}) (Result (Unit {0}) E)) (old new : Option (List ℕ)) (before : F) (why : E) : Type 0 where
  pub frames : List (List ℕ)
  pub between : Option (List ℕ)
  pub so_far : F
  pub answered : Answered g old between before so_far frames
  pub failed : List ℕ
  pub read : Consumes between new (frame_of failed)
  pub after : F
  pub answer : CalledAt g so_far failed (Err why) after

-- All whole frames that were taken were answered with success.
pub record EndsAfter {F E : Type 0} (g : Mut F (Bor (List ℕ) × Unit {0}) (Result (Unit {0}) E)) (old new : Option (List ℕ)) (before : F) : Type 0 where
  pub frames : List (List ℕ)
  pub between : Option (List ℕ)
  pub after : F
  pub answered : Answered g old between before after frames
  pub ends : EndsInside between new
