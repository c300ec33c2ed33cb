pub mod Reading
pub mod Going
