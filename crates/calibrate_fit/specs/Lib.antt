pub mod Samples
pub mod Diagrams
pub mod Calibration
pub mod Private
