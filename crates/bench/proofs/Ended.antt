-- Laws of the code's list of ended polls: polls noted one after the other are the list of them.
use Prim.Native.Nat.{suc, ◌+◌, ◌-◌, ◌≤◌, ◌<◌}
use native.Mathlib.Numerals.{add-one}
use native.Mathlib.Omega.{arith}
use mathlib.Core.Path.{◌≡◌, ap, ◌∙◌}
use mathlib.Core.Bool.{Bool, true, false}
use mathlib.Core.List.{List, [], ◌∷◌, ◌++◌, append_assoc, append-nil}
use lib.ListN.{length, replicate, length-append}
use lib.Seq.{set-append_seam}
use Rattle.quantities.specs.Limits.{row_capacity}
use Rattle.bench.specs.declared.Finish.{Finish}
use Rattle.bench.specs.declared.Finishes.{Finishes}
use Rattle.bench.specs.Ended.{no_finish, finishes_of, noted}

-- the code's list with all these polls noted
unfoldable pub noted_all : Finishes → List Finish → Finishes
noted_all f [] = f
noted_all f (poll ∷ polls) = noted_all (noted f true poll) polls

-- one poll more
pub noted_more : (polls : List Finish) (poll : Finish) → length polls < row_capacity → noted (finishes_of polls) true poll ≡ finishes_of (polls ++ (poll ∷ []))
unfolding finishes_of noted
noted_more polls poll h =
    let n : row_capacity - length polls ≡ suc (row_capacity - suc (length polls)) = omega arith in
    let m : length polls + 1 ≡ suc (length polls) = add-one (length polls) in
    rw (n, set-append_seam polls no_finish (replicate (row_capacity - suc (length polls)) no_finish) poll, length-append polls (poll ∷ []), m)
    (rw (append_assoc polls (poll ∷ [])))

-- all of them, as far as there is room
pub noted_all_lem : (polls rest : List Finish) → length polls + length rest ≤ row_capacity → noted_all (finishes_of polls) rest ≡ finishes_of (polls ++ rest)
unfolding noted_all
noted_all_lem polls [] h = rw append-nil
noted_all_lem polls (poll ∷ rest) h =
    let h' : length (polls ++ (poll ∷ [])) + length rest ≤ row_capacity = omega (arith, length-append polls (poll ∷ [])) in
    rw (noted_more polls poll (omega arith)) (noted_all_lem (polls ++ (poll ∷ [])) rest h' ∙ ap finishes_of (append_assoc polls (poll ∷ []) rest))

pub noted_count : (f : Finishes) (ended : Bool) (poll : Finish) → (noted f ended poll).count ≤ f.count + 1
unfolding noted
noted_count f true poll = omega arith
noted_count f false poll = omega arith
