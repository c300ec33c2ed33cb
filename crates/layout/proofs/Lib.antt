pub mod Laid
pub mod Rooms
pub mod Readers
pub mod Settled
pub mod States
pub mod Sheets
