-- The analysis of the caller's own list: the table that its rows make, and what is answered and written.
pub mod Loaded
pub mod Lent
