pub mod Commands
pub mod Pairs
pub mod Counts
pub mod Made
pub mod Blocks
