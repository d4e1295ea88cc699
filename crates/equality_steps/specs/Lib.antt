pub mod Sites
pub mod Links
pub mod Blocks
pub mod Given
pub mod Denied
pub mod Clauses
pub mod Joined
