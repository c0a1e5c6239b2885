-- Demand 3 with replays among the calls.
pub mod Events
pub mod Follows
pub mod Histories
pub mod Items
pub mod Links
pub mod Demand3
