pub mod Texts
pub mod Reads
pub mod Private
