pub mod Apart
pub mod Merging
