-- The laws of access.
pub mod Counts
