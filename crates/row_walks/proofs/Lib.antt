-- The laws of a walk over an order.
pub mod Lists
pub mod Masks
