-- Flags in words of 64.
pub mod Bitmap
