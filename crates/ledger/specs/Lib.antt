pub mod Account
pub mod Calls
pub mod Demand3
