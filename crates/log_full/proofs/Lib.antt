-- What a rename's checks tell over the bearer of its name.
pub mod Renaming
