-- A bench run from bytes: the format of calls and answers, and what a replay answers.
pub mod Format
pub mod Replay
