pub mod JudgingLemmas
pub mod StatusLemmas
pub mod AssumeLemmas
pub mod ListLemmas
pub mod Growing
pub mod AheadLemmas
pub mod RatioLemmas
pub mod ChunkLemmas
