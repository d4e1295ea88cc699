mod ItemsApart
mod ShapesByNodes
mod AttributesByNodes
mod UsualAttributes
mod ArgumentsByNodes
pub mod CommandsByNodes
