pub mod Elaborated
pub mod Ending
pub mod Statuses
pub mod Making
