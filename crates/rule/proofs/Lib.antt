-- The laws of adding a rule.
pub mod Adding
