mod Entries
mod Months
pub mod Named
mod Numbered
