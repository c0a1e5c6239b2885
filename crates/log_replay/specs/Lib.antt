-- The tree that a replay starts from, and what its code answers.
pub mod Replays
