-- The calls that change the tree keep sound tables sound.
pub mod Written
pub mod Edits
pub mod Changed
pub mod Climbs
pub mod Stays
pub mod Fill
pub mod Clear
pub mod Move
