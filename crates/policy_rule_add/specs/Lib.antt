-- A rule of a policy file, added.
pub mod Added
