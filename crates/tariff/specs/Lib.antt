pub mod Charges
pub mod Schedules
