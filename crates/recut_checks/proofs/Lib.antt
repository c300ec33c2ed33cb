pub mod Left
pub mod Pieced
pub mod Checking
pub mod Accepted
pub mod Answers
pub mod Settled
