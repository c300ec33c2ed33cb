pub mod Marks
pub mod Ramps
pub mod Accepted
pub mod Settled
