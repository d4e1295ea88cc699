pub mod WeightLemmas
pub mod LineLists
pub mod FormLemmas
pub mod LeastLemmas
pub mod BoundLemmas
