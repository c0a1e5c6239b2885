-- The laws of sound entries.
pub mod Rows
pub mod Climb
pub mod Reach
pub mod Marks
pub mod Facts
