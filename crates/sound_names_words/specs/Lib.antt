-- Bytes read by words.
pub mod Words
