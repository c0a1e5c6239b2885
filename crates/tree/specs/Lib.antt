-- The calls that change the tree: each in four parts, what precedes the verdict, the verdict, the later checks and the effect.
pub mod Entries
pub mod Moves
pub mod Create
pub mod Link
pub mod Rename
pub mod Exchange
