pub mod Lengths
pub mod Accepted
pub mod Told
pub mod Settled
