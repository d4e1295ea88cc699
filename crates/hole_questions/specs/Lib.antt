pub mod States
pub mod Pieces
pub mod Walks
pub mod Asserts
pub mod Declarations
