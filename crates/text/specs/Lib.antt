-- The text of a sheet's answer, what a lent buffer holds of it, and cases.
pub mod Text
pub mod Printed
pub mod Cases
