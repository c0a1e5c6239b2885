-- An index of the live entries by their objects.
pub mod Rows
pub mod Objects
