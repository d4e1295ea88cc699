pub mod Names
pub mod Packing
pub mod Hashing
pub mod Keys
