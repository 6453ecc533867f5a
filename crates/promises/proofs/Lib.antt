-- The proofs of the three demands, of the pages that they stand on, of the fakes, and of the starred numbers.
pub mod Tool
pub mod Promises
pub mod Fakes
pub mod FakeTicks
pub mod Starred
