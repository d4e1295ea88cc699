pub mod Words
pub mod Filling
pub mod Settings
pub mod Ending
