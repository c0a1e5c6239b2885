-- Rules put into their order one after another.
pub mod Insert
pub mod Picked
