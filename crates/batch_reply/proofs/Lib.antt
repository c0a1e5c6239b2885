-- How code comes to the reply to a request.
pub mod Replies
