-- Laws for the code that finds components.
pub mod Places
pub mod Spans
