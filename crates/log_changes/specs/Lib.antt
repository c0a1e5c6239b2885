-- A change tried on a tree, as code tests it.
pub mod Tried
