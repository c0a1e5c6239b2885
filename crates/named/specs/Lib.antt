-- The calls on tables with names, the turn of a queue, batches, policy files applied and written, demand 3 for them, which layer their refusals name, and what names promise.
pub mod Named
pub mod Tree
pub mod Queue
pub mod Batch
pub mod Policy
pub mod Write
pub mod Calls
pub mod Claim
pub mod Layer
pub mod Promise
pub mod Answers
