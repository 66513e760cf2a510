pub mod Overwriting
mod Joining
mod Figures
