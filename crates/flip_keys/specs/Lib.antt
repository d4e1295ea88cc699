pub mod Numbers
pub mod Classes
pub mod Walks
pub mod KeyTables
pub mod FirstPlaces
pub mod Assertions
