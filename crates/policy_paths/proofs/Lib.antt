-- The laws of paths, for the code.
pub mod Lengths
pub mod Choosing
