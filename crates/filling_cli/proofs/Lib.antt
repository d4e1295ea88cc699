pub mod Spelled
pub mod Coming
pub mod Showing
pub mod Running
