pub mod CheckLemmas
pub mod FormLemmas
pub mod LineLemmas
