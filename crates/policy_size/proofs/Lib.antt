-- The laws of fields one after another.
pub mod Fields
pub mod Whole
