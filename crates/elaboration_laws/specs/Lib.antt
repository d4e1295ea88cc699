pub mod StrictBlocks
