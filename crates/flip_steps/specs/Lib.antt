pub mod Forms
pub mod Subterms
pub mod Stages
pub mod Refilling
pub mod Memory
pub mod Units
pub mod Remembering
pub mod Walks
