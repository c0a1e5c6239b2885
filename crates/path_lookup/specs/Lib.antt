-- What a lookup answers.
pub mod Lookup
