-- Replies and entries as numbers.
pub mod Codes
