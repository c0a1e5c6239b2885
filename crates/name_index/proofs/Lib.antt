-- The laws of the index of names.
pub mod Row
pub mod Bearers
