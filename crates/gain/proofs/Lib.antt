pub mod Stands
pub mod Moves
pub mod Answers
pub mod Needless
