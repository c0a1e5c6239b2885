pub mod Seeks
pub mod Sound
pub mod Fair
