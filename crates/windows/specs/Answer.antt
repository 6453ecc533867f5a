-- The answer to a list of rows: its bounds, a row not shown, or a fault; and the numbers of document 01 for each case.
use Rattle.std.specs.Prelude.{ℕ, suc, true, false, List, [], ◌++◌, eqb, length, drop}
use Rattle.std.proofs.Math.Option.{Option, none, some}
use Rattle.quantities.specs.Checks.{list_fault, lent_fault}
use Rattle.quantities.specs.Paper.{Paper, paper, no_refusal, fault_paper}
use Rattle.quantities.specs.declared.Row.{Row}
use Rattle.quantities.specs.declared.Fault.{Fault}
use Rattle.windows.specs.declared.Answer.{Answer}
use Rattle.windows.specs.declared.Answer.TheVariants.{Shown, NotShown, Refused}
use Rattle.windows.specs.Bound.{bounds_below}

-- An answer with the bounds that come with it: of every row, or of the rows before the place not shown.
pub record Judged : Type 0 where
  pub answer : Answer
  pub bounds : List ℕ

-- the number of a row for which no window from its cost to its deadline passes
abbrev pub late_number : ℕ
late_number = 8

-- the answer to this many rows when these are the bounds up to the first row that has none
unfoldable pub verdict : ℕ → List ℕ → Judged
verdict count bounds =
    record {
      answer = elim (eqb (length bounds) count) [ true ↦ Shown | false ↦ NotShown late_number (suc (length bounds)) ];
      bounds = bounds;
    }

-- the answer to rows on M cores once the checks are over
unfoldable pub judged_after : Option Fault → ℕ → List Row → Judged
judged_after (some fault) M rows = record { answer = Refused fault; bounds = [] }
judged_after none M rows = verdict (length rows) (bounds_below M [] rows)

-- the answer to a list of rows on M cores
unfoldable pub judged : ℕ → List Row → Judged
judged M rows = judged_after (list_fault M rows) M rows

-- the answer where the bounds go into a list with this many entries
unfoldable pub judged_into : (M entries : ℕ) → List Row → Judged
judged_into M entries rows = judged_after (lent_fault M entries rows) M rows

-- what the bounds list holds afterwards: the bounds in its first entries, every later entry as it was
unfoldable pub bounds_after : Judged → List ℕ → List ℕ
bounds_after j entries = j.bounds ++ drop (length j.bounds) entries

-- an answer on paper: the first row not shown stands there by its number and place
unfoldable pub answer_paper : Answer → Paper
answer_paper Shown = no_refusal
answer_paper (NotShown number place) = paper number place
answer_paper (Refused fault) = fault_paper fault
