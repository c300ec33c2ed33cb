pub mod Laid
pub mod Layout
pub mod Sheet
pub mod Corridor
