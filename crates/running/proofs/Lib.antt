-- Why the bound holds, floor by floor.
pub mod State
pub mod Invariant
pub mod Phase
pub mod Above
pub mod Count
pub mod Stretch
pub mod Tick
pub mod Release
pub mod Reading
pub mod Start
pub mod Tests
pub mod Calls
pub mod Below
pub mod Running
pub mod Replayed
pub mod Parts
