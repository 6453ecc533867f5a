-- What the contracts below the promises say is what the promises say.
pub mod Promised
pub mod Sheets
pub mod Lent
