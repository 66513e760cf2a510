mod Counting
mod Dating
pub mod Forming
pub mod Lacking
pub mod Looks
mod Separating
pub mod Parting
mod Reading
pub mod Signs
pub mod Spelling
pub mod Widths
