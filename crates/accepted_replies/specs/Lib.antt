pub mod Refutations
pub mod Replies
pub mod Texts
pub mod Numbering
