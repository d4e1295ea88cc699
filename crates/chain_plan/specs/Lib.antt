pub mod Towers
pub mod Plans
pub mod Carried
pub mod Lowering
pub mod Normals
pub mod Trails
pub mod Contradicting
