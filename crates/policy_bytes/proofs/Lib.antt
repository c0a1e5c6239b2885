-- Bytes written one after another.
pub mod Puts
