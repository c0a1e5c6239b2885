-- What each layer denies each entry, kept for a batch.
pub mod Rows
