-- The pages of a row list: the words that all pages share, checks, limits, windows, and the lent forms.
pub mod Words
pub mod Quantities
pub mod Lists
pub mod Tables
pub mod Windows
pub mod Patterns
pub mod Lent
