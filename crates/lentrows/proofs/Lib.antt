-- Laws of how many bounds there are, of the table that a list makes, and of what is written and left in the list.
pub mod Counted
pub mod Loaded
pub mod Lent
pub mod Written
