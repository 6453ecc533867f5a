-- The engine's answer, and what its inner functions ask for and leave.
pub mod Analysis
pub mod Engine
