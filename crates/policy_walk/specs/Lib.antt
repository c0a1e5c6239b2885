-- The counted rules of a ruleset's part, one after another.
pub mod Flat
pub mod Steps
