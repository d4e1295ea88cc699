pub mod Counting
pub mod Isolation
pub mod Resting
pub mod Nested
pub mod KeptLines
pub mod KeptSights
pub mod Forming
pub mod KeptReading
pub mod Discharging
pub mod Passing
mod Examples
