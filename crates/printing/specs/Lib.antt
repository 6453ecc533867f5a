-- Words and numbers as bytes, and bytes put into a lent buffer.
pub mod Words
pub mod Decimal
pub mod Buffer
