pub mod Walk
pub mod Shares
pub mod Facts
pub mod Cutting
pub mod Settled
