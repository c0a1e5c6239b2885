-- What writing the file of a ruleset rests on, answers and leaves.
pub mod Writing
