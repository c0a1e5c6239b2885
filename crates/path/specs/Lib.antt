-- What the report of a component says.
pub mod Span
