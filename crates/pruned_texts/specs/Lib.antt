pub mod Needed
pub mod Ending
pub mod Needing
