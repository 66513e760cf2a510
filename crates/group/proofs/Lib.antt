pub mod Changes
pub mod EntriesSound
pub mod Lists
pub mod MonthsSound
mod Nets
pub mod OpeningSound
mod Postings
mod Quantities
pub mod Standing
pub mod Stepping
pub mod YearsSound
