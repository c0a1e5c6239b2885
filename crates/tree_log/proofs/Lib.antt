-- Laws of the log: a field is read back, an unbroken log gives back the tree, a replay keeps sound tables sound.
pub mod Pieces
pub mod Values
pub mod Trees
pub mod Quiet
pub mod Idle
pub mod Accepted
pub mod Entering
pub mod Unbroken
pub mod Changed
pub mod Kept
pub mod Examples
