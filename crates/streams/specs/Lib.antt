-- How many bytes of a buffer count; frames, and how they are answered.
pub mod Counts
pub mod Frames
