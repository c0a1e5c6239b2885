-- The laws of requests between threads.
pub mod Walks
pub mod Replies
pub mod Reach
