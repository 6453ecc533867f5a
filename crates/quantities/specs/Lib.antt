-- Limits, rows, lengths, tables, the checks of a list, and faults on paper.
pub mod Limits
pub mod Row
pub mod Lengths
pub mod Table
pub mod Paper
pub mod Checks
pub mod Computing
