-- Laws of entries: their order, sheets made of them, and their table.
pub mod Entries
pub mod Order
pub mod Sheets
pub mod Tables
