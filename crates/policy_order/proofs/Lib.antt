-- The laws of putting in order.
pub mod Shift
pub mod Sorted
pub mod Ordering
pub mod Picks
