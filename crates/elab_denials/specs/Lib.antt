pub mod Rules
pub mod Working
pub mod Owing
pub mod Walking
pub mod Matching
pub mod Stating
pub mod Implying
