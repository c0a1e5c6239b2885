-- Requests between threads.
pub mod Task
