-- How many bounds an answer has.
use Prim.Native.Nat.{ℕ}
use native.Mathlib.Omega.{arith}
use mathlib.Core.Path.{◌≡◌, sym}
use mathlib.Core.Logic.{⊎_elim}
use mathlib.Core.List.{List}
use lib.ListN.{length}
use Rattle.quantities.specs.Checks.{SoundList}
use Rattle.quantities.specs.declared.Row.{Row}
use Rattle.windows.specs.Answer.{judged}
use Rattle.windows.specs.Judgement.{AllShown, FirstNotShown}
use Rattle.windows.proofs.Judgement.{judged_means}
use Rattle.lentrows.specs.Lent.{shown_by}

-- the answer to a sound list says how many bounds it has
pub shown_count : (M : ℕ) (rows : List Row) → SoundList M rows
    → shown_by (judged M rows).answer (length rows) ≡ length (judged M rows).bounds
unfolding shown_by
shown_count M rows sound =
    ⊎_elim (λ (a : AllShown rows (judged M rows)). rw a.says (sym a.each))
    (λ (n : FirstNotShown M rows (judged M rows)). rw n.says (omega arith))
    (judged_means M rows sound).ends
