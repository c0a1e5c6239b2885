-- The verdict of a domain by kept rows.
pub mod Batch
