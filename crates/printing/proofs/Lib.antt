-- Laws of numbers in decimal, and of bytes put into a buffer.
pub mod Decimal
pub mod Buffer
