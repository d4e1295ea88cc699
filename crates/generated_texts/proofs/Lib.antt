pub mod LikeTrees
pub mod CellLemmas
pub mod ListLemmas
pub mod Judged
pub mod AnyPool
