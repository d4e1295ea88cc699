pub mod Comparisons
pub mod ComparisonReads
pub mod Operands
pub mod Lines
