-- When rules are sound.
pub mod Rules
pub mod Flags
