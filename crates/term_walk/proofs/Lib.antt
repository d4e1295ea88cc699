mod Cells
mod Pieces
