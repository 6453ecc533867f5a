-- Laws of calls on a lent bench.
pub mod Lent
mod Runs
