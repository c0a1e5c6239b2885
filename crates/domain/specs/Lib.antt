-- The calls on threads and layers: when each is refused, in document 01's order, and what it does.
pub mod Threads
pub mod Layer
