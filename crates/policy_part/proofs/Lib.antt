-- A part applied.
pub mod Applied
