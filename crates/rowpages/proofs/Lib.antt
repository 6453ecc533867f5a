-- The proofs of the pages of a row list.
pub mod Words
pub mod Quantities
pub mod Lists
pub mod Tables
pub mod Windows
pub mod Solution
pub mod Patterns
pub mod Lent
