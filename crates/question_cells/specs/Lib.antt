pub mod SymbolTrees
pub mod Definitions
