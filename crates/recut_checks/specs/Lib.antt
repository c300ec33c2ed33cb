pub mod Pieces
pub mod Change
