-- The laws of moves.
pub mod Against
pub mod Crossed
pub mod NeedsRows
