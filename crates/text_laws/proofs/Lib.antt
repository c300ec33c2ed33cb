pub mod Fed
pub mod ReadBack
pub mod Accepted
pub mod Records
pub mod Pieces
