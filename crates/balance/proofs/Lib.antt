mod Bills
mod CurrentDrafts
mod DebtsTold
mod Entries
mod Found
mod HistoriesTold
mod Issues
mod IssuesTold
mod Kept
mod Nets
mod OneGroup
mod Openings
mod PhasesFollow
pub mod Sampled
mod Slots
pub mod Theorem
pub mod WholeRuns
mod Years
