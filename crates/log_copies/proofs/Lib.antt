-- Lists copied whole, and a replay on copies.
pub mod Copies
pub mod Whole
