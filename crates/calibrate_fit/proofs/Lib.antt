pub mod Tests
pub mod Passes
pub mod Answers
pub mod Fitting
pub mod Settled
