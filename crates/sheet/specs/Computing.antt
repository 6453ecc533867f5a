-- One name that opens the reading of a sheet, and what it rests on: with it a case in bytes computes.
use Rattle.quantities.specs.Computing.{checks_compute}
use Rattle.records.specs.Bytes.{number_after, field}
use Rattle.records.specs.Records.{record_length, is_row_kind, row_fields, whole_record, record_on, is_end}
use Rattle.entries.specs.Entries.{ticks_of, row_in, board_sheet, entries_of, used, inserted, with_entry}
use Rattle.entries.specs.Entries.{table_with, table_in, table_of}
use Rattle.sheet.specs.Checks.{misplaced, board_checks, row_record_checks, end_checks, record_checks, verdict_of}
use Rattle.sheet.specs.Reader.{no_sheet, new_reading, after_record, refused, whole, unread, ended}
use Rattle.sheet.specs.Reader.{first_from, first_sheet_of, closed, read_of}

unfoldable pub sheets_compute : Unit {0}
unfolding checks_compute read_of closed first_sheet_of first_from unread ended new_reading no_sheet board_sheet record_on
    record_length is_row_kind is_end whole_record row_fields field number_after record_checks misplaced board_checks
    row_record_checks end_checks verdict_of after_record with_entry inserted entries_of row_in ticks_of used whole refused
    table_with table_in table_of
sheets_compute = tt
