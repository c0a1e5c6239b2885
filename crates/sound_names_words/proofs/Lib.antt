-- The laws of words, and of rows that are compared by them.
pub mod Words
pub mod Same
