-- Laws of the lines.
pub mod Lines
