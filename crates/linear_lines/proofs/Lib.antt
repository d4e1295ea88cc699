pub mod ComparisonLemmas
pub mod MultipleLemmas
pub mod SumLemmas
