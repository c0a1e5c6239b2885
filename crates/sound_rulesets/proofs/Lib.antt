-- What sound rulesets are.
pub mod Facts
pub mod Rows
