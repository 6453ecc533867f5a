-- The proofs of the pages of the order sheet.
pub mod SheetsChecks
pub mod SheetsRows
pub mod Sheets
pub mod SheetRecords
