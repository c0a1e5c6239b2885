-- The laws of written policy files.
pub mod Filled
pub mod Create
pub mod Adds
pub mod Applied
pub mod Sound
pub mod Trip
pub mod Proved
pub mod Example
