pub mod Dates
pub mod Gregorian
