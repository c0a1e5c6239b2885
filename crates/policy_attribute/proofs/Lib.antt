-- A ruleset's masks, its groups, and masks that are cut.
pub mod Second
pub mod Groups
pub mod Cut
