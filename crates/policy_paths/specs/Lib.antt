-- What the paths of entries rest on.
pub mod Rooted
