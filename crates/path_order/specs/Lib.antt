-- Which of two entries' paths goes first, from the names where they part.
pub mod Parting
