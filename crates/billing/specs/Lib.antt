pub mod Accounts
pub mod Costs
pub mod Zones
