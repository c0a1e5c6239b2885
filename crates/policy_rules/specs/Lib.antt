-- What the readers of rules and groups tell.
pub mod Items
