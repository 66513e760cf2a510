pub mod Law
pub mod Limits
pub mod Refusals
pub mod Rules
pub mod Parts
pub mod KeepingTheLaw
pub mod Laws
