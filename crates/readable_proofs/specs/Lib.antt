pub mod Names
pub mod TermsOver
pub mod ProofsOver
