pub mod Join
pub mod Private
