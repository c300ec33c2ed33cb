pub mod Comes
pub mod Reading
pub mod Settled
