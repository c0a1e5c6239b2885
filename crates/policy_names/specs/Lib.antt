-- Names of rulesets in buckets.
pub mod Buckets
