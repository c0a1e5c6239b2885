-- A step of a replay.
pub mod Steps
