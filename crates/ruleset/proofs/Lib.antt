-- The laws of an attribute's bytes.
pub mod Numbers
