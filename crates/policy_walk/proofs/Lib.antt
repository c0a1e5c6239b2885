-- The laws of the walk.
pub mod Flat
pub mod Fronts
pub mod Counts
pub mod Steps
pub mod Fine
pub mod Found
