pub mod Ones
pub mod Reading
pub mod Anchors
mod BlockLines
mod Collected
mod Closings
mod Passing
mod Alike
mod Keeping
pub mod Forming
mod Meant
pub mod Sorting
pub mod Lowering
mod Nothing
