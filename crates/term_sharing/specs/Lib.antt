pub mod Naming
pub mod FreeNames
pub mod NamedTerms
pub mod Marks
pub mod SortedProofs
