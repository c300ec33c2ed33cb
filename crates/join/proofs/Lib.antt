pub mod Sums
pub mod Facts
pub mod Groups
pub mod Settled
