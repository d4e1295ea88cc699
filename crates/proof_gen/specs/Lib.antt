pub mod Counting
pub mod Kept
pub mod Templates
pub mod Texts
