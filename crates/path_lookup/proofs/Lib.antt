-- Laws for the lookup of a path.
pub mod Steps
