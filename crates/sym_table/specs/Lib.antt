pub mod Words
pub mod WordLengths
pub mod Names
pub mod Leaf
pub mod Table
pub mod Cells
pub mod KeyPlaces
