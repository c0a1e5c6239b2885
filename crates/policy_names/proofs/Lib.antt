-- The laws of names in buckets.
pub mod Buckets
