-- The rows of a sheet as entries, and the table that they give.
pub mod Entries
