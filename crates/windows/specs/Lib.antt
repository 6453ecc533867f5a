-- A row list's rules: windows, choices, the least window, bounds, jumps, the answer, the starred numbers.
pub mod Window
pub mod Choice
pub mod Least
pub mod Bound
pub mod Jump
pub mod Answer
pub mod Judgement
pub mod Computing
pub mod Starred
