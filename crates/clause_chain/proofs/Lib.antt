pub mod Joining
pub mod Keys
pub mod Leaving
pub mod Alone
pub mod Onwards
