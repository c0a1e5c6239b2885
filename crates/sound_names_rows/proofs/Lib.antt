-- The laws of rows of names, and of names that are unique.
pub mod Tests
pub mod Form
pub mod Twins
