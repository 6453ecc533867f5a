-- What turns a call away, in the order of document 01, and the number and place of each refusal.
use Rattle.std.specs.Prelude.{ℕ, ◌-◌, Bool, false, ◌||◌, List, [], ◌∷◌, eqb, ltb, length, Option, None, Some, Result, Ok, Err}
use Rattle.std.proofs.Math.Option.{Option as Maybe, none, some}
use Rattle.laws.specs.Checks.{Check, check_for}
use Rattle.quantities.specs.Row.{cost, gap}
use Rattle.quantities.specs.Paper.{Paper, paper, no_refusal}
use Rattle.quantities.specs.declared.Instant.{Instant}
use Rattle.bench.specs.declared.Bench.{Bench}
use Rattle.bench.specs.declared.Refusal.{Refusal}
use Rattle.bench.specs.declared.Refusal.TheVariants.{NoPlace, Unfinished, TooSoon, WrongDemand}
use Rattle.bench.specs.declared.Refusal.TheVariants.{ClockEnd, BrokenRecord}
use Rattle.bench.specs.State.{last_instant, rows, row_at, state_at, work, broken}

-- whether fewer than `gap` ticks are over since the last release; a first release is never too soon
unfoldable pub too_soon : (now gap : ℕ) → Option Instant → Bool
too_soon now gap None = false
too_soon now gap (Some at) = ltb (now - at.0) gap

-- whether a release of the row at a place is too soon, and whether its last poll leaves no room for one
abbrev pub soon_at : Bench → (place : ℕ) → Bool
soon_at b place = too_soon b.now.0 (gap (row_at b place)) (state_at b place).last

abbrev pub full_at : Bench → (place : ℕ) → Bool
full_at b place = ltb 0 (work (state_at b place))

-- the tests of a release of `demand` at `place`: 29, 20, 23, 22, 21
unfoldable pub release_tests : Bench → (place demand : ℕ) → List (Check Refusal)
release_tests b place demand =
    check_for BrokenRecord (broken b)
    ∷ check_for (NoPlace place) (eqb place 0 || ltb (length (rows b)) place)
    ∷ check_for (WrongDemand place) (eqb demand 0 || ltb (cost (row_at b place)) demand)
    ∷ check_for (TooSoon place) (soon_at b place)
    ∷ check_for (Unfinished place) (full_at b place)
    ∷ []

-- the tests of a tick: 29, 24
unfoldable pub tick_tests : Bench → List (Check Refusal)
tick_tests b = check_for BrokenRecord (broken b) ∷ check_for ClockEnd (eqb b.now.0 last_instant) ∷ []

-- what a call comes to: it is taken, or refused for a reason
abbrev pub Outcome : Type 0
Outcome = Result (Unit {0}) Refusal

-- a refusal, or none, as the code's functions answer it
unfoldable pub outcome_of : Maybe Refusal → Outcome
outcome_of none = Ok tt
outcome_of (some why) = Err why

-- a refusal on paper: its number and its place in document 01
unfoldable pub refusal_paper : Refusal → Paper
refusal_paper (NoPlace place) = paper 20 place
refusal_paper (Unfinished place) = paper 21 place
refusal_paper (TooSoon place) = paper 22 place
refusal_paper (WrongDemand place) = paper 23 place
refusal_paper ClockEnd = paper 24 0
refusal_paper BrokenRecord = paper 29 0

-- an outcome on paper
unfoldable pub outcome_paper : Outcome → Paper
outcome_paper (Ok done) = no_refusal
outcome_paper (Err why) = refusal_paper why
