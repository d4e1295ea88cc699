pub mod Brackets
pub mod TextItems
pub mod CommandNodes
pub mod CommandShapes
pub mod UsualAttributes
