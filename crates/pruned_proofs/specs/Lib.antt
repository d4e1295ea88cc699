pub mod Reached
pub mod Pruned
pub mod KeptScopes
pub mod Core
pub mod PrunedExamples
