-- The laws of climbs.
pub mod Above
