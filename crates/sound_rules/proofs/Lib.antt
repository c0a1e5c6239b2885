-- What sound rules are.
pub mod Facts
pub mod Files
pub mod Flags
pub mod Loop
