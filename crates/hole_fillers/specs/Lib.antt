pub mod Benches
pub mod Questions
pub mod Examples
