-- How code comes to a change tried on a tree, and what a try tells.
pub mod Trying
pub mod Values
