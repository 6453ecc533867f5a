-- The proofs of the pages of the bench.
pub mod Broken
pub mod Calls
pub mod Openings
pub mod CallBytes
pub mod Moves
pub mod Histories
pub mod Clock
pub mod Waiting
pub mod Below
pub mod Polls
pub mod LentPolls
