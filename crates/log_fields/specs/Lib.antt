-- What the code of the fields answers.
pub mod Seen
