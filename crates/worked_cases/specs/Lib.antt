pub mod Cases
pub mod Numbers
pub mod Orders
pub mod Runs
