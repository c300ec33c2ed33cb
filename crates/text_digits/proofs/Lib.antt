pub mod Stores
pub mod Digits
pub mod Lines
pub mod Settled
