-- When layers and the pool are sound.
pub mod Layers
pub mod Runs
