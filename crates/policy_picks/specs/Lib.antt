-- The entries picked for path rules, and the tests of a ruleset that is to be written.
pub mod Picks
