-- How code comes to an answer.
pub mod Answered
