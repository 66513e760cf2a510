pub mod Columns
pub mod Questions
pub mod Reports
pub mod Rows
pub mod Tables
pub mod Words
