pub mod Rows
pub mod Combinations
pub mod Steps
pub mod Refutations
pub mod Found
pub mod Columns
pub mod Forms
