-- The checks of a record, in the order of document 01, and the verdict that they give.
use Rattle.std.specs.Prelude.{ℕ, ◌+◌, Bool, true, not, cond, ◌||◌, List, [], ◌∷◌, eqb, leb, ltb, Result, Ok, Err}
use Rattle.std.proofs.Math.Option.{none, some}
use Rattle.quantities.specs.Limits.{row_capacity}
use Rattle.laws.specs.Checks.{Check, first_failing}
use Rattle.quantities.specs.Paper.{Paper}
use Rattle.quantities.specs.Checks.{check}
use Rattle.quantities.specs.declared.Micros.{Micros}
use Rattle.records.specs.Records.{board_kind, row_kind, end_kind, end_length}
use Rattle.records.specs.declared.Record.{Record}
use Rattle.records.specs.declared.Record.TheVariants.{Missing, Unknown, Cut, Board, Row, End}
use Rattle.entries.specs.Entries.{entries_of, used}
use Rattle.entries.specs.declared.Sheet.{Sheet}
use Rattle.sheet.specs.declared.Reading.{Reading}
use Rattle.sheet.specs.declared.SheetFault.{SheetFault}

-- the largest priority number
abbrev pub top_priority : ℕ
top_priority = 999

-- whether a record of a kind stands where it must not: the first one that is no board, or a later board
unfoldable pub misplaced : Bool → ℕ → Bool
misplaced begun kind = cond begun (eqb kind board_kind) (not (eqb kind board_kind))

-- the check of a board record's tick length, at the record's place
unfoldable pub board_checks : ℕ → Micros → List (Check Paper)
board_checks at tick = check 19 at (eqb tick.0 0) ∷ []

-- the checks of a row record with this priority, after the rows that the sheet has so far
unfoldable pub row_record_checks : ℕ → Sheet → ℕ → List (Check Paper)
row_record_checks at sheet priority =
    check 14 at (leb row_capacity sheet.count)
    ∷ check 16 at (eqb priority 0 || ltb top_priority priority)
    ∷ check 15 at (used priority (entries_of sheet))
    ∷ []

-- the checks of an end record with this count, with this many bytes from its kind byte on
unfoldable pub end_checks : ℕ → ℕ → Sheet → ℕ → List (Check Paper)
end_checks at left sheet count =
    check 17 at (not (eqb count sheet.count))
    ∷ check 18 (at + end_length) (ltb end_length left)
    ∷ []

-- the check that a record of a kind stands where it may
abbrev pub place_check : ℕ → Reading → ℕ → Check Paper
place_check at reading kind = check 13 at (misplaced reading.begun kind)

-- the checks of what was found at a place, with this many bytes from there on
unfoldable pub record_checks : ℕ → ℕ → Reading → Record → List (Check Paper)
record_checks at left reading Missing = check 11 at true ∷ []
record_checks at left reading Unknown = check 12 at true ∷ []
record_checks at left reading (Cut kind) = place_check at reading kind ∷ check 11 at true ∷ []
record_checks at left reading (Board cores tick) = place_check at reading board_kind ∷ board_checks at tick
record_checks at left reading (Row fields) =
    place_check at reading row_kind ∷ row_record_checks at reading.sheet fields.priority
record_checks at left reading (End count) =
    place_check at reading end_kind ∷ end_checks at left reading.sheet count

-- the checks of what was found at a place, by itself: nothing that stands behind it counts
abbrev pub own_checks : ℕ → Reading → Record → List (Check Paper)
own_checks at reading found = record_checks at end_length reading found

-- what is found at a record or in a whole sheet: nothing wrong, or a fault
abbrev pub Verdict : Type 0
Verdict = Result (Unit {0}) SheetFault

-- a fault by its number and its byte place
abbrev pub fault : (number place : ℕ) → SheetFault
fault number place = record { number = number; place = place }

-- the verdict of checks: the number and the place of the first one that fails
unfoldable pub verdict_of : List (Check Paper) → Verdict
verdict_of checks =
    elim (first_failing checks) [ none ↦ Ok tt | some told ↦ Err (fault told.number told.place) ]
