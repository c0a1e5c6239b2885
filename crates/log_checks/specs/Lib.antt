-- A tree by its parts, and the parts of its checks that code tests at once.
pub mod Checks
