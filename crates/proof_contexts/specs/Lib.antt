pub mod Bindings
pub mod Images
pub mod OpenAnchors
pub mod Ways
