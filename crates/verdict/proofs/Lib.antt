-- The laws of a domain's verdict.
pub mod Denials
pub mod Answers
