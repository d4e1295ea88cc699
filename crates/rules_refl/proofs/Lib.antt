pub mod Stating
pub mod SideLemmas
