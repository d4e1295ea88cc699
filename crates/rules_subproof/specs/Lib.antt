pub mod Prefixes
pub mod Lets
pub mod SideTables
