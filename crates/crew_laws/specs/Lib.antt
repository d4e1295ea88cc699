pub mod AnyOrder
pub mod Made
