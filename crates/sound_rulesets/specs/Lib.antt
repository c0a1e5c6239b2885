-- When rulesets are sound.
pub mod Rulesets
