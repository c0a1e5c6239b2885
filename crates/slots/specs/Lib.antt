-- The queue's slots as records.
pub mod Slots
pub mod Fair
