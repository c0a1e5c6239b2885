-- What the passed tests of a rename tell, and what they leave.
pub mod Moving
