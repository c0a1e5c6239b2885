-- What the reader of a field tells.
pub mod Fields
