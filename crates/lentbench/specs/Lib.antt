-- What a call on a lent bench leaves and answers.
pub mod Lent
