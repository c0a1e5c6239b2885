-- Writing a policy file: the order of rules, an object's path, the bytes, and what refuses.
pub mod Order
pub mod Chosen
pub mod Written
pub mod File
pub mod Agree
pub mod Example
