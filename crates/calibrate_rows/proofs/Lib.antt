pub mod Rounding
pub mod Exponents
pub mod Answers
pub mod Settled
