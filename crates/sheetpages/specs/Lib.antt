-- The pages of the order sheet in bytes.
pub mod Sheets
pub mod SheetRecords
