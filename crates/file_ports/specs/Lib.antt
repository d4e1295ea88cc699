pub mod Faults
pub mod InMemory
pub mod Opened
pub mod Schedule
pub mod Stops
pub mod Text
pub mod Texts
pub mod Pieces
