-- How an entry goes into the index of objects.
pub mod Adds
