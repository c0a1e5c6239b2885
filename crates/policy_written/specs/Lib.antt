-- Writing a policy file, as a call, and what is promised of it.
pub mod Promise
pub mod Example
