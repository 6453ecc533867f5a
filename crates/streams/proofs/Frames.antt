-- One more frame that is answered with success.
use denote.Bor.{Bor}
use Rattle.std.proofs.Common.{ℕ, ◌++◌, ◌∷◌, [], List, Option, Result, Ok, subst}
use Rattle.std.proofs.lemmas.Fn.{FoldsTo-push}
use Rattle.std.proofs.lemmas.List.{flat_map_more}
use Rattle.std.specs.Fn.{Mut, CalledAt}
use Rattle.std.specs.Io.KnownBytes.{Consumes}
use Rattle.streams.proofs.Reading.{Consumes-append}
use Rattle.streams.specs.Frames.{Answered, frame_of}

pub Answered-push : {F E : Type 0} (g : Mut F (Bor (List ℕ) × Unit {0}) (Result (Unit {0}) E)) (old between new : Option (List ℕ)) (before after later : F) (frames : List (List ℕ)) (frame : List ℕ) → Answered g old between before after frames → Consumes between new (frame_of frame) → CalledAt g after frame (Ok tt) later → Answered g old new before later (frames ++ frame ∷ [])
Answered-push g old between new before after later frames frame answered read called = record {
  read = subst (Consumes old new) (flat_map_more frame_of [] frames frame) (Consumes-append old between new _ _ answered.read read);
  answers = FoldsTo-push _ before frames after frame later answered.answers called;
}
