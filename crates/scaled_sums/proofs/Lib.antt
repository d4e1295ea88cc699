pub mod Divisors
pub mod Wholes
pub mod Sums
pub mod Runs
