-- Laws of the exported function: its places are small, and it has one outcome.
pub mod Places
pub mod Exported
