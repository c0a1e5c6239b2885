-- The laws of writing fields one after another.
pub mod Parts
