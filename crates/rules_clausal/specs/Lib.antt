pub mod ArgumentRules
pub mod Sorting
pub mod Changes
