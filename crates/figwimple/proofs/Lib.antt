pub mod Places
pub mod Called
pub mod Settled
