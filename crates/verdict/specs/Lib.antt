-- What a domain answers to a question.
pub mod Denial
