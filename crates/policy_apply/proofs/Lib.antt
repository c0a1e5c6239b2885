-- The laws of applying.
pub mod Rows
pub mod Undone
