-- The laws of a verdict by kept rows.
pub mod Walks
pub mod Ready
