-- When the entries are sound.
pub mod Tree
pub mod Fast
