-- The numbers on a sheet, and its records.
pub mod Bytes
pub mod Records
