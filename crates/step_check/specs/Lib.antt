pub mod Steps
pub mod Statuses
pub mod Chunks
