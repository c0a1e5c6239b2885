-- The laws of kept orders.
pub mod Orders
