-- Rules added one after another.
pub mod Steps
