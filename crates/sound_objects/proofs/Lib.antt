-- The laws of the index of objects.
pub mod Live
pub mod Rows
pub mod Trees
pub mod Index
