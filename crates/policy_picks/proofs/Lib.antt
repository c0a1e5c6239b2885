-- The laws of picking entries, and of the tests over them.
pub mod Picking
