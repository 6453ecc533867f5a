-- The laws of the definitions, file by file.
pub mod Window
pub mod Choice
pub mod Least
pub mod Bound
pub mod Jump
pub mod Room
pub mod Far
pub mod Judgement
pub mod Into
pub mod Prefix
