-- The laws of blocks of cells.
pub mod Blocks
