pub mod Stops
pub mod Files
