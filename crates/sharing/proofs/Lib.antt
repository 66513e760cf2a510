pub mod Admission
pub mod Layers
mod Single
pub mod Writing
