pub mod Since
pub mod EachCommand
pub mod Spelled
