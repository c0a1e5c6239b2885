-- The laws of kept rows.
pub mod Kept
pub mod Ready
