pub mod Claims
pub mod Drawers
pub mod Events
pub mod Rule
