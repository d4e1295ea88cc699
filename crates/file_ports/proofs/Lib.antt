pub mod Files
pub mod Gets
pub mod Reading
pub mod Rests
pub mod Writing
