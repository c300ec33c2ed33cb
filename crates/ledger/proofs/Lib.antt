pub mod Balance
pub mod Sound
pub mod Periods
pub mod Cuts
pub mod Demand3
pub mod Held
pub mod Tied
