-- The lines of the program's text.
pub mod Lines
