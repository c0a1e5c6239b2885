-- The laws of create.
pub mod Creating
