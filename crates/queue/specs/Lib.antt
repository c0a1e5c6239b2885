-- Document 02, W14: a queue of eight slots.
pub mod Queue
pub mod Events
