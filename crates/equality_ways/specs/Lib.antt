pub mod Ways
pub mod Sides
pub mod Tables
pub mod Reaching
