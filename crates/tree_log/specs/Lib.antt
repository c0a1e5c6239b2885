-- Document 02, W11: the log of tree changes. Its fields, what they change, replay, the calls that append, and when a log is unbroken.
pub mod Changes
pub mod Tree
pub mod Replay
pub mod Logged
pub mod History
