-- The promise of the tool, a bound met exactly, rows below that change nothing, the replay, the parts needed.
pub mod Running
pub mod Exact
pub mod Below
pub mod Replayed
pub mod Parts
