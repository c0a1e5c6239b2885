-- The fields of rules, one after another, and how long they are.
pub mod Fields
