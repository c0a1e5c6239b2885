-- The laws of what the readers tell.
pub mod Items
