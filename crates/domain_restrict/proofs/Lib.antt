-- The laws of restrict.
pub mod Depth
pub mod Room
pub mod Changes
