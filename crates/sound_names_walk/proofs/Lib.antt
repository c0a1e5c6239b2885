-- The laws of walks along chains.
pub mod Walks
