-- The statement of the exported function has one outcome, and its code loses neither number nor place.
use Prim.Native.Nat.{ℕ, ◌<◌}
use native.Mathlib.Omega.{arith}
use mathlib.Core.Path.{◌≡◌, sym, ◌∙◌}
use mathlib.Core.List.{List}
use Rattle.windows.specs.Answer.{Judged}
use Rattle.exports.specs.Exported.{place_limit, coded, Exported}

pub one_outcome : (judged : Judged) (before after after' : List ℕ) (answer answer' : ℕ)
    → Exported judged before after answer → Exported judged before after' answer' → (answer ≡ answer') × (after ≡ after')
one_outcome judged before after after' answer answer' one other =
    (one.answers ∙ sym other.answers, one.leaves ∙ sym other.leaves)

pub coded_apart : (number place number' place' : ℕ) → place < place_limit → place' < place_limit
    → coded number place ≡ coded number' place' → (number ≡ number') × (place ≡ place')
coded_apart number place number' place' fits fits' same = (omega arith, omega arith)
