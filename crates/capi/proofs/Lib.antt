-- How an exported call comes to its number, and what a span is.
pub mod Answers
pub mod Spans
