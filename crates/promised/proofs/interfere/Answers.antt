-- interfere answers as windows::interference does.
use mathlib.Core.Path.{ap, ◌∙◌}
use Rattle.quantities.specs.declared.Ticks.{Ticks}
use Rattle.rowpages.proofs.Windows.{formulas_answered}
use Rattle.promised.proofs.interfere.Goals as goal

pub returns : goal.returns
returns c = ap (λ (t : Ticks). t.0) c.interference.ensures ∙ formulas_answered.limited _ _ _
