pub mod Applications
pub mod WellSorted
pub mod Descent
