pub mod Steps
pub mod Connectives
pub mod Distinct
pub mod Facts
