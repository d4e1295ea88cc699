pub mod Leaves
pub mod Judging
pub mod Steps
pub mod Ways
