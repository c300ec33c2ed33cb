pub mod Lists
pub mod Undropped
pub mod Runs
