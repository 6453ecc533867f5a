-- What the program reads.
pub mod Reading
