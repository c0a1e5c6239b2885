-- Entries that go into a sorted list.
pub mod Counts
