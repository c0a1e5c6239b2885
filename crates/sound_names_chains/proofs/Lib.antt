-- The laws of the index of names.
pub mod Index
pub mod Unique
pub mod Told
