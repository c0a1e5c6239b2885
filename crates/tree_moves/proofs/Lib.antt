-- The rows of the table of needs that calls read.
pub mod Rows
