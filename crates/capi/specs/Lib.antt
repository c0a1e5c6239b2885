-- What C and Rust receive.
pub mod Codes
