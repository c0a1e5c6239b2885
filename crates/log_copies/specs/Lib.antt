-- What a replay leaves.
pub mod Whole
