-- The starred bench case of document 01, "Numbers to check by hand", as a claim about the definition's run.
use Rattle.std.specs.Prelude.{ℕ, ◌≡◌, refl, List, [], ◌∷◌}
use Rattle.std.proofs.Math.Option.{Option, none, some}
use Rattle.laws.specs.Each.{Each}
use Rattle.quantities.specs.Row.{row_of}
use Rattle.quantities.specs.Table.{empty_table, with_row}
use Rattle.quantities.specs.declared.Table.{Table}
use Rattle.bench.specs.declared.Bench.{Bench}
use Rattle.bench.specs.declared.Finish.{Finish}
use Rattle.bench.specs.Step.{opened, Step}
use Rattle.bench.specs.History.{Call, releases, ticks, steps}
use Rattle.bench.specs.Computing.{bench_computes}

-- the board of the case, on one core
abbrev board : Table
board = with_row (with_row (with_row empty_table (row_of 1 4 4)) (row_of 2 6 6)) (row_of 5 12 12)

-- full demands at instant 0, row 1 again at 4 and 8, row 2 at 6, and ticks up to instant 12
abbrev history : List Call
history =
    releases 1 1
    ∷ releases 2 2
    ∷ releases 3 5
    ∷ ticks
    ∷ ticks
    ∷ ticks
    ∷ ticks
    ∷ releases 1 1
    ∷ ticks
    ∷ ticks
    ∷ releases 2 2
    ∷ ticks
    ∷ ticks
    ∷ releases 1 1
    ∷ ticks
    ∷ ticks
    ∷ ticks
    ∷ ticks
    ∷ []

-- a poll of the row at a place that ended this many ticks after its release
abbrev ended : (place response : ℕ) → Finish
ended place response = record { place = place; response = record { 0 = response } }

-- the polls that ended in the run of a history, each with the instant after the tick in which it ended
pub record EndedAt : Type 0 where
  pub instant : ℕ
  pub poll : Finish

unfoldable pub all_ended : List Step → List EndedAt
all_ended [] = []
all_ended (step ∷ rest) = at step.finishes (all_ended rest)
  where
    at : List Finish → List EndedAt → List EndedAt
    at [] later = later
    at (poll ∷ polls) later = record { instant = step.bench.now.0; poll = poll } ∷ at polls later

-- what ends in a run of the case, where the board opens
unfoldable pub case_ended : Option Bench → List EndedAt
case_ended none = []
case_ended (some b) = all_ended (steps b history)

-- The claims: the run's ended polls, of which row 3's ends at instant 12.
abbrev pub claims : List (Type 0)
claims =
    (
    case_ended (opened 1 board)
    ≡ record { instant = 1; poll = ended 1 1 }
    ∷ record { instant = 3; poll = ended 2 3 }
    ∷ record { instant = 5; poll = ended 1 1 }
    ∷ record { instant = 8; poll = ended 2 2 }
    ∷ record { instant = 9; poll = ended 1 1 }
    ∷ record { instant = 12; poll = ended 3 12 }
    ∷ [])
    ∷ []

pub starred : Each (λ claim. claim) claims
unfolding bench_computes case_ended all_ended
starred = (refl, tt)
