pub mod Applications
pub mod Numbered
pub mod ReadProofs
