-- Chains of the entries whose names fall into one bucket.
pub mod Fold
pub mod Walks
