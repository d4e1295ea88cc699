pub mod TermLemmas
pub mod SubstitutionLemmas
pub mod NumberedLemmas
