-- The room for the input.
pub mod Reading
