-- Create and close: when each is refused, in document 01's order, and what it does.
pub mod Attribute
pub mod Create
