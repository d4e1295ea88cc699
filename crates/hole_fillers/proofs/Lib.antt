mod Seats
pub mod Places
pub mod Lookup
mod AskedValues
mod Refuting
mod Justified
