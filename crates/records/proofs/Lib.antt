-- Laws of a record and of the part that it stands on.
pub mod Bytes
pub mod Records
pub mod Parts
