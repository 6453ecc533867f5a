-- Laws of the quantities' definitions.
pub mod Checks
pub mod Sound
pub mod SoundRows
pub mod Paper
pub mod Rows
pub mod Lengths
