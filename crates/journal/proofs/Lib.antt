pub mod Forms
pub mod Lengths
pub mod RoundTrips
pub mod Sameness
