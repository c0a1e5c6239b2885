-- Where a ruleset's masks are.
pub mod Masks
