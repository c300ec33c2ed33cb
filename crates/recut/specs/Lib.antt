pub mod Pieces
pub mod Recut
pub mod Private
