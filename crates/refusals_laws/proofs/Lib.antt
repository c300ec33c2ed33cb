pub mod Lowest
pub mod Lists
