-- The laws of a judgement.
pub mod Climbs
pub mod Laws
