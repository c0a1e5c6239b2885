-- The laws of the reader of a file.
pub mod Reading
