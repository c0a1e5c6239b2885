-- How code comes to the outcome of a call on tables with names, and what holds of all such calls.
pub mod Orders
pub mod Replies
pub mod Made
pub mod Listed
pub mod Lists
pub mod Leaves
pub mod Applied
pub mod Translate
pub mod Demand3
pub mod Renamed
pub mod Kept
pub mod Fresh
pub mod Layer
pub mod Lookup
pub mod Unsound
pub mod Promise
pub mod Answers
