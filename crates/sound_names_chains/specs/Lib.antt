-- An index of the entries that have a name.
pub mod Chains
