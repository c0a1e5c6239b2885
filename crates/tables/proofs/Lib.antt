-- The laws of the tables.
pub mod Outcomes
pub mod Blames
pub mod Lengths
pub mod Freshness
pub mod Layers
