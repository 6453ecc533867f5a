-- Laws of the engine's words.
pub mod Above
pub mod Small
pub mod Tally
pub mod SoFar
