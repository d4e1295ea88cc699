pub mod JudgementLemmas
pub mod HoleLemmas
pub mod VerdictLemmas
pub mod CellLemmas
pub mod PoolLemmas
pub mod CellSums
pub mod TermsOfTexts
pub mod ScopedTerms
pub mod ScopedProofs
pub mod TruthClauses
mod SomeJudgement
