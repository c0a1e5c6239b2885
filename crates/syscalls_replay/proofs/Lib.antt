-- What a replay answers and leaves.
pub mod Replays
