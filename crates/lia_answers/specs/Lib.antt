pub mod Filling
pub mod LiaStates
pub mod Negating
