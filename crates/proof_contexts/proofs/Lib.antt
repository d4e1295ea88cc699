pub mod Anchors
pub mod ImageLists
pub mod Levels
pub mod ImageSteps
pub mod WayLemmas
pub mod OpenLines
pub mod Opening
pub mod Popping
