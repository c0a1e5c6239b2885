-- The laws of entries that go into a sorted list.
pub mod Grows
pub mod Counts
