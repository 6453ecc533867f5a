-- The definitions of the order sheet, in the order in which they build on each other.
pub mod Checks
pub mod Reader
pub mod Computing
pub mod Faults
pub mod Whole
pub mod Promises
pub mod Cases
