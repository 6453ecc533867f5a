-- Words about lists, and lists of checks, that definitions use.
pub mod Each
pub mod Permuted
pub mod Member
pub mod Checks
