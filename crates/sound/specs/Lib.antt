-- When tables are sound.
pub mod Sound
pub mod Call
