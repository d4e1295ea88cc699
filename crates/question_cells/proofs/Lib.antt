mod Plain
mod TokenCounts
mod PlainForms
mod ReadCells
mod FewCells
mod TokensLeft
pub mod Membership
mod Negations
