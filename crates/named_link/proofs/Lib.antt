-- What the passed tests of a link tell, and what they leave.
pub mod Linking
