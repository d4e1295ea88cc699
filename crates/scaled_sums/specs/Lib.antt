pub mod Divisors
pub mod Multiples
pub mod Coefficients
pub mod Relations
pub mod Runs
