pub mod Ranges
pub mod Settled
