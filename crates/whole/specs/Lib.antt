pub mod Share
pub mod Lists
pub mod Sums
pub mod Search
