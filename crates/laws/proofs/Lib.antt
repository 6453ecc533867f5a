-- The laws that belong to no one crate: of numbers, of lists, of tests, of permuted lists.
pub mod Numbers
pub mod Lists
pub mod Tests
pub mod Checks
pub mod Permuted
