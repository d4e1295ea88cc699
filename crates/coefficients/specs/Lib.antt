pub mod Readings
pub mod Fractions
pub mod Three
pub mod Amounts
pub mod Prefixes
