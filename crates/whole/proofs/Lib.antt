pub mod Tests
pub mod Shares
pub mod Lists
pub mod Sums
pub mod Search
pub mod Settles
pub mod Settled
