-- What reads take from an input, and the frames that are answered.
pub mod Frames
pub mod Reading
