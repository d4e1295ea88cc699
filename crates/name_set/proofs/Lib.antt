pub mod Positions
pub mod PackedNames
pub mod NewNames
pub mod KeyLists
pub mod Texts
