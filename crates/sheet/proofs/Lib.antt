-- Laws of the sheet's definitions.
pub mod Checks
pub mod Reader
pub mod Turns
pub mod Faults
pub mod Readings
pub mod Accepted
pub mod Whole
pub mod Sound
pub mod Answers
pub mod Prefix
pub mod First
pub mod Promises
