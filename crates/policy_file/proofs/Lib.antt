-- The laws of writing a file.
pub mod Filled
