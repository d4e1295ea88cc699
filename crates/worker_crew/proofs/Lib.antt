pub mod Parts
pub mod Doing
pub mod Ordering
pub mod Shares
