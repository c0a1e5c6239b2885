-- The tables: their cells by name, what a call leaves, fresh tables.
pub mod Tables
pub mod Layers
pub mod Outcome
pub mod Fresh
