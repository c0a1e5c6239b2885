-- The laws of what a name means.
pub mod Finding
