pub mod Cells
pub mod Standing
pub mod Summaries
pub mod Summarizing
pub mod Generating
