pub mod Doubles
pub mod RowNumbers
pub mod Rows
pub mod Private
