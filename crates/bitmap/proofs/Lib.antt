-- The laws of flags in words.
pub mod Masks
pub mod Flags
