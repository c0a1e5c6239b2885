-- How code comes to the answers one by one.
pub mod Answers
