-- Laws for the code over names.
pub mod Bytes
