-- The layers of each thread's domain in their order, kept for a batch.
pub mod Order
