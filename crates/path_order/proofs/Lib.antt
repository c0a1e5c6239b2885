-- The laws of parting.
pub mod Bytes
pub mod Steps
pub mod Parting
