pub mod Options
pub mod PartLemmas
pub mod JudgingLemmas
pub mod ConstantLemmas
