pub mod Printing
pub mod Two
