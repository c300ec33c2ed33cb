pub mod Signs
pub mod NoNan
pub mod Calibrated
pub mod WorkedCase
