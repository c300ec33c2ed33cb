pub mod Limits
pub mod Passing
pub mod Settled
