-- What a write rests on, answers and leaves.
pub mod Opened
pub mod Answered
