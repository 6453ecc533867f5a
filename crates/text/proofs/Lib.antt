-- Laws of the text's definitions.
pub mod Text
pub mod Printed
