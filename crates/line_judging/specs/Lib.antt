pub mod Weights
pub mod LineForms
pub mod Totals
pub mod Sums
