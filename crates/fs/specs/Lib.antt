-- The verdict on link, rename and exchange.
pub mod Needs
pub mod NeedsTable
pub mod Move
pub mod Against
pub mod Blame
