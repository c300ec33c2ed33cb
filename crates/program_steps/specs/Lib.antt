pub mod Lines
pub mod Turns
pub mod Demand
pub mod Program
pub mod Steps
pub mod Private
