-- Laws of a replay's definitions.
pub mod Format
pub mod Writes
pub mod Calls
pub mod Chunks
pub mod Turns
pub mod Ran
