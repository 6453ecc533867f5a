-- The bench: what it holds, when number 29 is due, how rows are served, its calls, histories and rules.
pub mod State
pub mod Refusal
pub mod Serving
pub mod Ended
pub mod Step
pub mod History
pub mod Computing
pub mod TickRule
pub mod Rules
pub mod Fakes
pub mod Starred
