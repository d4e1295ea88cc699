pub mod Plain
pub mod Parts
pub mod Mixing
pub mod Elimination
pub mod Solutions
