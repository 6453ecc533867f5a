-- The page of promises, the pages that it stands on, the fakes that it catches, the starred numbers.
pub mod Tool
pub mod Promises
pub mod Fakes
pub mod Starred
