-- The laws of soundness.
pub mod Parts
pub mod Facts
pub mod Calls
pub mod Fresh
