pub mod Places
pub mod TableLemmas
pub mod ReachLemmas
pub mod TrailLemmas
pub mod SideLemmas
pub mod TermLemmas
