-- The rows from the end on.
pub mod Ends
