pub mod Cell
pub mod Sharing
pub mod Fair
pub mod Updated
pub mod Period
pub mod Private
pub mod Starts
