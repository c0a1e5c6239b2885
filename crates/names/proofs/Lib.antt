-- The laws of names and paths.
pub mod Bytes
pub mod Bearer
pub mod Rows
pub mod Facts
pub mod Changes
pub mod Paths
pub mod Component
pub mod Walking
pub mod Examples
