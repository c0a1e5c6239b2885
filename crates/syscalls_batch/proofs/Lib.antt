-- The outcome of a batch.
pub mod Outcome
