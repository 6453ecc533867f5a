-- The pages of the bench: calls, their bytes, what they do, histories, polls, rows below.
pub mod Calls
pub mod CallBytes
pub mod Moves
pub mod Histories
pub mod Below
pub mod Polls
pub mod LentPolls
