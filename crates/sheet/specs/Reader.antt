-- What reading a sheet answers: its records as they stand, until one is refused or the end record is taken.
use Rattle.std.specs.Prelude.{ℕ, zero, suc, ◌+◌, true, false, cond, List, ltb, length, drop, Ok, Err}
use Rattle.quantities.specs.Paper.{Paper, paper, no_refusal}
use Rattle.records.specs.Records.{record_on, size_on, is_end}
use Rattle.records.specs.declared.Record.{Record}
use Rattle.records.specs.declared.Record.TheVariants.{Missing, Unknown, Cut, Board, Row, End}
use Rattle.entries.specs.Entries.{board_sheet, with_entry}
use Rattle.sheet.specs.Checks.{own_checks, Verdict, fault, verdict_of}
use Rattle.entries.specs.declared.Sheet.{Sheet}
use Rattle.sheet.specs.declared.Reading.{Reading}
use Rattle.sheet.specs.declared.FirstSheet.{FirstSheet}
use Rattle.sheet.specs.declared.Outcome.{Outcome}

-- the sheet with no board and no row
unfoldable pub no_sheet : Sheet
no_sheet = board_sheet 0 (record { 0 = 0 })

-- before the first record
unfoldable pub new_reading : Reading
new_reading = record { begun = false; sheet = no_sheet }

-- after a record that nothing is wrong with
unfoldable pub after_record : Reading → Record → Reading
after_record reading (Board cores tick) = record { begun = true; sheet = board_sheet cores tick }
after_record reading (Row fields) =
    record {
      begun = reading.begun;
      sheet = with_entry reading.sheet fields;
    }
after_record reading (End count) = reading
after_record reading Missing = reading
after_record reading Unknown = reading
after_record reading (Cut kind) = reading

-- a refused sheet yields no table
unfoldable pub refused : ℕ → ℕ → Outcome
refused number place = record { verdict = Err (fault number place); sheet = no_sheet }

-- a sheet without fault
unfoldable pub whole : Sheet → Outcome
whole sheet = record { verdict = Ok tt; sheet = sheet }

-- no sheet is read: the number and the place, and no end
unfoldable pub unread : ℕ → ℕ → FirstSheet
unread number place = record { verdict = Err (fault number place); sheet = no_sheet; end = 0 }

-- a sheet is read up to this place, behind its end record
unfoldable pub ended : Sheet → ℕ → FirstSheet
ended sheet end = record { verdict = Ok tt; sheet = sheet; end = end }

-- the first sheet on the bytes of a reading that stands at a place, with the part from there on, in at most this
-- many records; each record takes a byte or more, so that a limit of more records than bytes is never met
unfoldable pub first_from : (limit : ℕ) → Reading → (at : ℕ) → List ℕ → FirstSheet
first_from zero reading at part = unread 11 at
first_from (suc limit) reading at part =
    let found = record_on part in
    elim (verdict_of (own_checks at reading found)) [
      | Err one ↦ unread one.number one.place
      | Ok _ ↦
          elim (is_end found) [
            | true ↦ ended reading.sheet (at + size_on part)
            | false ↦ first_from limit (after_record reading found) (at + size_on part) (drop (size_on part) part)
          ]
    ]

-- the first sheet that stands on some bytes, whatever stands behind it
unfoldable pub first_sheet_of : List ℕ → FirstSheet
first_sheet_of bytes = first_from (suc (length bytes)) new_reading 0 bytes

-- the answer of this many bytes that are to be one sheet: those behind the first sheet's end turn it away
unfoldable pub closed : ℕ → FirstSheet → Outcome
closed long first =
    elim first.verdict [
      | Err one ↦ refused one.number one.place
      | Ok _ ↦ cond (ltb first.end long) (refused 18 first.end) (whole first.sheet)
    ]

-- the answer of a sheet
unfoldable pub read_of : List ℕ → Outcome
read_of sheet = closed (length sheet) (first_sheet_of sheet)

-- a verdict on paper
unfoldable pub verdict_paper : Verdict → Paper
verdict_paper (Ok _) = no_refusal
verdict_paper (Err one) = paper one.number one.place
