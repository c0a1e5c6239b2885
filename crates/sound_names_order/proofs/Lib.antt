-- The laws of the order.
pub mod Less
pub mod Compared
pub mod Places
pub mod Inserts
