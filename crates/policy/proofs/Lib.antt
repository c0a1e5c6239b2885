-- The laws of policy files.
pub mod Examples
pub mod Parts
pub mod Pieces
pub mod Grammar
pub mod Walks
