-- Each check of a place refuses.
pub mod Places
