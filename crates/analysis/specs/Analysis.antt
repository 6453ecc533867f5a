-- The engine's answer to a table: the answer of the rules, with the bounds in an array.
use Rattle.quantities.specs.Lengths.{in_array}
use Rattle.windows.specs.Answer.{Judged}
use Rattle.analysis.specs.declared.Analysis.{Analysis}

unfoldable pub analysis_of : Judged → Analysis
analysis_of judged = record { answer = judged.answer; bounds = in_array judged.bounds }
