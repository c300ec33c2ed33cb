pub mod FilePieces
pub mod Finding
pub mod Settled
