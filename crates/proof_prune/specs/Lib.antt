pub mod Marking
pub mod Numbering
pub mod Wanted
pub mod Firsts
pub mod Order
pub mod Closers
pub mod Pruning
pub mod PrunedFrom
